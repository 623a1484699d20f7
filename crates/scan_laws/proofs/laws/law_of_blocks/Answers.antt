use Rattle.scan_laws.proofs.StepLemmas.{matches_lie_on_lines, regions_are_clear, regions_lie_between}
use Rattle.scan_laws.proofs.laws.law_of_blocks.Goals as goal

pub returns : goal.returns
returns c = record { lines = matches_lie_on_lines; between = regions_lie_between; clear = regions_are_clear }
