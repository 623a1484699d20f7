use Rattle.std.proofs.Common.{length, ◌-◌, ◌≤◌, ◌++◌, drop, map, List}
use Rattle.pattern_parse.specs.Cut.{IsCut, Raw, Ending}
use Rattle.pattern_parse.specs.RawView.{raw_view}
use Rattle.pattern_parse.proofs.cutting.cut_body.Given as goal

abbrev pub invariant-loop-raw : goal.invariant-loop-raw
invariant-loop-raw l = record {
  within : l.at ≤ length l.body;
  rest : (more : List Raw) (e : Ending) → IsCut (drop l.at l.body) more e
      → IsCut l.body (map (raw_view l.body) l.raws.items ++ more) e;
}

abbrev pub decreases-loop-raw : goal.decreases-loop-raw
decreases-loop-raw l = length l.body - l.at
