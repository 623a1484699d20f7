use Rattle.made_laws.proofs.MadeLemmas.{made_checks_are_exact, made_checks_tell_lines}
use Rattle.made_laws.proofs.laws.law_of_made_checks.Goals as goal

pub returns : goal.returns
returns c = record { exact = made_checks_are_exact; lines = made_checks_tell_lines }
