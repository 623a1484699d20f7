use Rattle.num_exprs.proofs.GrammarLemmas as lemmas
use Rattle.num_exprs.proofs.laws.law_of_expressions.Goals as goal

pub returns : goal.returns
returns c = record { grammar = record { sound = lemmas.sound; complete = lemmas.complete } }
