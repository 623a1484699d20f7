use Rattle.std.proofs.Common.{sym, ◌∙◌}
use Rattle.ere_reach.proofs.asked.Asked.take.Goals as goal

pub returns-in-Some-clause-built : goal.returns-in-Some-clause-built
returns-in-Some-clause-built c = c.requires.built c.in-Some.automaton (sym c.take.ensures.value ∙ c.in-Some.is)
