use Rattle.check_scan.proofs.LawLemmas.{in_one_block}
use Rattle.check_scan.proofs.laws.each_directive_in_one_block.Goals as goal

pub returns : goal.returns
returns c = in_one_block
