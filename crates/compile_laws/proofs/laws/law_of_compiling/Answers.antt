use Rattle.compile_laws.proofs.LawLemmas.{checks_are_one, not_both, refusal_is_one}
use Rattle.compile_laws.proofs.laws.law_of_compiling.Goals as goal

pub returns : goal.returns
returns c = record { checks = checks_are_one; not_both = not_both; refusal = refusal_is_one }
