use Rattle.std.proofs.Common.{◌≡◌, length, take}
use Rattle.ere_places.specs.Places.{AreBoth}
use Rattle.ere_places.specs.Seen.{is_held}
use Rattle.ere_places.proofs.ListLemmas.{AreSame}
use Rattle.ere_places.proofs.list.put_new.Given as goal

abbrev pub invariant-loop-place : goal.invariant-loop-place
invariant-loop-place l = record {
  same : AreSame (is_held l.seen) l.list.items;
  all : AreBoth l.fn.list.items (take l.place-index l.found) l.list.items;
  front : take (length l.fn.list.items) l.list.items ≡ l.fn.list.items;
  base : l.seen.base ≡ l.fn.seen.base;
  direction : l.seen.direction ≡ l.fn.seen.direction;
}
