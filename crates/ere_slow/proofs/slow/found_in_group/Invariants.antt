use Rattle.std.proofs.Common.{◌≡◌, ◌++◌, map}
use Rattle.std.specs.Vec.Iter.{into_iter_items}
use Rattle.ere_slow.specs.Listing.{found_of, found_inside}
use Rattle.ere_slow.proofs.slow.found_in_group.Given as goal

abbrev pub invariant-loop-one : goal.invariant-loop-one
invariant-loop-one l =
    map found_of l.found.items ++ map (found_inside l.fn.number l.fn.from)
    (map found_of (into_iter_items l.one-iterator))
    ≡ map (found_inside l.fn.number l.fn.from) (map found_of l.fn.held.items)
