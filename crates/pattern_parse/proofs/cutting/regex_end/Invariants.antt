use Rattle.std.proofs.Common.{length, ◌-◌, ◌≡◌, ◌≤◌, drop}
use Rattle.pattern_parse.specs.Ends.{up_to_end}
use Rattle.pattern_parse.proofs.CutLemmas.{adds}
use Rattle.pattern_parse.proofs.cutting.regex_end.Given as goal

abbrev pub invariant-loop-count : goal.invariant-loop-count
invariant-loop-count l = record {
  within : l.count ≤ length l.text;
  rest : adds l.count (up_to_end (drop l.count l.text)) ≡ up_to_end l.text;
}

abbrev pub decreases-loop-count : goal.decreases-loop-count
decreases-loop-count l = length l.text - l.count
