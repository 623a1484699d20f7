use Rattle.filecheck_tool.proofs.VerdictLemmas.{read_is}
use Rattle.filecheck_tool.proofs.verdict.verdict_of.Goals as goal

pub returns : goal.returns
returns c =
    read_is c.args.program.now c.args.read c.input_name-name.result.now c.in_ok-bytes.bytes c.in_ok-bytes-2.bytes
    c.canon_owned-input.result c.len-count.result c.in_ok-verdict.field-0 c.input_name-name.ensures
    c.in_ok-bytes.ensures.value c.in_ok-bytes-2.ensures.value c.len-count.ensures c.canon_owned-input.ensures.exact
    c.in_ok-verdict.ensures
