use Rattle.filecheck_tool.proofs.VerdictLemmas.{made_is}
use Rattle.filecheck_tool.proofs.making.made_of.Goals as goal

pub returns : goal.returns
returns c =
    made_is c.args.making.now c.args.old.now c.args.read c.input_name-name.result.now c.in_ok-bytes.bytes c.in_ok-output.output
    c.made_behind.result c.input_name-name.ensures c.in_ok-bytes.ensures.value c.in_ok-output.ensures.value
    c.made_behind.ensures
