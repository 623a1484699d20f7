use Rattle.ere_laws.proofs.CompletionLemmas.{faults_come_first}
use Rattle.ere_laws.proofs.laws.law_of_the_faults.Goals as goal

pub returns : goal.returns
returns c = record { first = faults_come_first }
