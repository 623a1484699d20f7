use Rattle.num_base.proofs.EvalLemmas as lemmas
use Rattle.num_base.proofs.laws.law_of_undefined.Goals as goal

pub returns : goal.returns
returns c = record { lacking = lemmas.undefined_lacks }
