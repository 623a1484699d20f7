use Rattle.std.proofs.Common.{rules}
use Rattle.pattern_hits.proofs.ReadLemmas.{read_tells}
use Rattle.pattern_hits.proofs.bound.spelled.Goals as goal

pub returns : goal.returns
returns c =
    read_tells c.args.format c.args.text.now c.read_value.result c.read_value.ensures.found c.read_value.ensures.only
    (search rules)
