use Rattle.std.proofs.Common.{◌≤◌, take}
use Rattle.std.specs.List.{All}
use Rattle.ere_auto.proofs.ends.least_of.Given as goal

abbrev pub invariant-loop-place : goal.invariant-loop-place
invariant-loop-place l = record {
  within : l.least ≤ l.most;
  least : All (λ p. l.least ≤ p) (take l.place-index l.places);
}
