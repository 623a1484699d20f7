use Rattle.std.proofs.Common.{◌≡◌, ◌++◌, map}
use Rattle.std.specs.Vec.Iter.{into_iter_items}
use Rattle.ere_slow.specs.Listing.{found_of, begun_of, each_behind}
use Rattle.ere_slow.proofs.slow.put_behind.Given as goal

abbrev pub invariant-loop-one : goal.invariant-loop-one
invariant-loop-one l =
    map begun_of l.rows.items ++ each_behind l.fn.may_be_empty (begun_of l.fn.row)
    (map found_of (into_iter_items l.one-iterator))
    ≡ map begun_of l.fn.rows.items ++ each_behind l.fn.may_be_empty (begun_of l.fn.row) (map found_of l.fn.found.items)
