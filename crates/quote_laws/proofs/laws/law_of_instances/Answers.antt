use Rattle.quote_laws.proofs.InstanceLemmas.{lines_are_made}
use Rattle.quote_laws.proofs.laws.law_of_instances.Goals as goal

pub returns : goal.returns
returns c = record { made = lines_are_made }
