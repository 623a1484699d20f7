use Rattle.std.proofs.Common.{length, ◌-◌, ◌≡◌, ◌≤◌, drop, false}
use Rattle.pattern_parse.specs.Ends.{end_of}
use Rattle.pattern_parse.proofs.CutLemmas.{adds}
use Rattle.pattern_parse.proofs.cutting.block_end.Given as goal

abbrev pub invariant-loop-count : goal.invariant-loop-count
invariant-loop-count l = record {
  within : l.count ≤ length l.text;
  shallow : l.depth ≤ l.count;
  rest : adds l.count (end_of l.depth l.hidden (drop l.count l.text)) ≡ end_of 0 false l.text;
}

abbrev pub decreases-loop-count : goal.decreases-loop-count
decreases-loop-count l = length l.text - l.count
