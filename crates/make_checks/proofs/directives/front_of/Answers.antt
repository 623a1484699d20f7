use Rattle.make_checks.proofs.DirectiveLemmas.{all_none, all_some}
use Rattle.make_checks.proofs.directives.front_of.Goals as goal

pub returns-then-is_empty : goal.returns-then-is_empty
returns-then-is_empty c = all_none c.args.lines.now c.is_empty.result c.is_empty.ensures c.if-is_empty.true

pub returns-else-is_empty : goal.returns-else-is_empty
returns-else-is_empty c = all_some c.args.lines.now c.is_empty.result c.is_empty.ensures c.if-is_empty.false
