use Rattle.made_laws.proofs.EmptyLemmas.{empty_lines_are_least}
use Rattle.made_laws.proofs.laws.law_of_empty_lines.Goals as goal

pub returns : goal.returns
returns c = empty_lines_are_least
