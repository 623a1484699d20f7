use Rattle.std.proofs.Common.{◌≡◌, ◌++◌, map}
use Rattle.std.specs.Vec.Iter.{into_iter_items}
use Rattle.ere_tree.specs.Derivation.{members}
use Rattle.ere_slow.specs.Listing.{found_of, begun_of, found_of_row}
use Rattle.ere_slow.proofs.slow.found_members.Given as goal

abbrev pub invariant-loop-row : goal.invariant-loop-row
invariant-loop-row l =
    map found_of l.found.items ++ map (found_of_row members) (map begun_of (into_iter_items l.row-iterator))
    ≡ map (found_of_row members) (map begun_of l.fn.rows.items)
