use Rattle.bool_exprs.proofs.FreeLemmas.{found_free}
use Rattle.bool_exprs.proofs.reader.read_list.Goals as goal

pub returns-in-Ok-clause-no_refs : goal.returns-in-Ok-clause-no_refs
returns-in-Ok-clause-no_refs c = found_free c.args.xfail c.args.text.now c.in-Ok.found c.in-Ok.ensures.exact
