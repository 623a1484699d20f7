use Rattle.std.proofs.Common.{ℕ, ◌≤◌, ◌<◌}
use Rattle.std.specs.List.{All, Contains}
use Rattle.ere_places.specs.Places.{IsInside}
use Rattle.ere_match.proofs.line.all_places.Given as goal

abbrev pub invariant-loop-place : goal.invariant-loop-place
invariant-loop-place l = record {
  inside : All (IsInside l.window) l.all.items;
  each : (q : ℕ) → l.window.low ≤ q → q < l.place → Contains l.all.items q;
}
