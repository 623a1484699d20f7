use Rattle.std.proofs.Common.{◌≡◌, ◌++◌, map}
use Rattle.std.specs.Vec.Iter.{into_iter_items}
use Rattle.ere_slow.specs.Listing.{found_of, found_chosen}
use Rattle.ere_slow.proofs.slow.put_chosen.Given as goal

abbrev pub invariant-loop-one : goal.invariant-loop-one
invariant-loop-one l =
    map found_of l.found.items ++ map (found_chosen l.fn.index) (map found_of (into_iter_items l.one-iterator))
    ≡ map found_of l.fn.found.items ++ map (found_chosen l.fn.index) (map found_of l.fn.held.items)
