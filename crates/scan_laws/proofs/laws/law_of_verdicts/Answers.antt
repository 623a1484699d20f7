use Rattle.scan_laws.proofs.SeenLemmas.{verdict_is_of_seen}
use Rattle.scan_laws.proofs.laws.law_of_verdicts.Goals as goal

pub returns : goal.returns
returns c = verdict_is_of_seen
