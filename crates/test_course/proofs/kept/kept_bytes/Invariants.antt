use Rattle.std.proofs.Common.{◌≡◌, ◌≤◌, ◌^◌, length}
use Rattle.test_course.specs.Bytes.{capped, kept_behind}
use Rattle.test_course.proofs.kept.kept_bytes.Given as goal

abbrev pub invariant-loop-entry : goal.invariant-loop-entry
invariant-loop-entry l = record {
  most : l.kept ≤ 2 ^ 25;
  rest : capped (kept_behind l.kept l.rest) ≡ capped (kept_behind 0 l.entries);
}

abbrev pub decreases-loop-entry : goal.decreases-loop-entry
decreases-loop-entry l = length l.rest
