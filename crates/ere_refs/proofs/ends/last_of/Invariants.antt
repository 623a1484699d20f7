use Rattle.std.proofs.Common.{ℕ, ◌≤◌, take}
use Rattle.std.specs.List.{Contains}
use Rattle.ere_refs.proofs.ends.last_of.Given as goal

abbrev pub invariant-loop-place : goal.invariant-loop-place
invariant-loop-place l = (q : ℕ) → Contains (take l.place-index l.places) q → q ≤ l.last
