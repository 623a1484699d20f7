use Rattle.ere_laws.proofs.PlaceLemmas.{faults_lie_within, hits_lie_within}
use Rattle.ere_laws.proofs.laws.law_of_the_places.Goals as goal

pub returns : goal.returns
returns c = record { faults = faults_lie_within; hits = hits_lie_within }
