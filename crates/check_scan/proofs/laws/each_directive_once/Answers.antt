use Rattle.check_scan.proofs.LawLemmas.{once}
use Rattle.check_scan.proofs.laws.each_directive_once.Goals as goal

pub returns : goal.returns
returns c = once
