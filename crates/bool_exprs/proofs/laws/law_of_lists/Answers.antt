use Rattle.bool_exprs.proofs.GrammarLemmas as lemmas
use Rattle.bool_exprs.proofs.laws.law_of_lists.Goals as goal

pub returns : goal.returns
returns c = record { grammar = record { sound = lemmas.sound; complete = lemmas.complete } }
