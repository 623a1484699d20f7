use Rattle.std.proofs.Common.{ℕ, ◌≤◌, take}
use Rattle.std.specs.List.{Contains}
use Rattle.ere_match.proofs.line.last_from.Given as goal

abbrev pub invariant-loop-end : goal.invariant-loop-end
invariant-loop-end l = record {
  order : l.low ≤ l.last;
  inside : l.last ≤ l.high;
  each : (q : ℕ) → Contains (take l.end-index l.end-items) q → q ≤ l.last;
}
