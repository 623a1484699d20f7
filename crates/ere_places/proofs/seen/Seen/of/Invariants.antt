use Rattle.std.proofs.Common.{◌≡◌, take}
use Rattle.ere_places.specs.Seen.{is_held}
use Rattle.ere_places.proofs.ListLemmas.{AreSame}
use Rattle.ere_places.proofs.seen.Seen.of.Given as goal

abbrev pub invariant-loop-place : goal.invariant-loop-place
invariant-loop-place l = record {
  held : AreSame (is_held l.seen) (take l.place-index l.places);
  base : l.seen.base ≡ l.fn.base;
  direction : l.seen.direction ≡ l.fn.direction;
}
