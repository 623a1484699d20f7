use Rattle.std.proofs.Common.{◌≡◌, drop}
use Rattle.ere_tree.specs.Preference.{in_order}
use Rattle.ere_slow.specs.WayView.{ways_of, row_of}
use Rattle.ere_slow.proofs.way.+compare.Given as goal

abbrev pub invariant-OwnedWays::compare-loop-k : goal.invariant-OwnedWays::compare-loop-k
invariant-OwnedWays::compare-loop-k l =
    in_order (ways_of (drop l.k (row_of l.self))) (ways_of (drop l.k (row_of l.others)))
    ≡ in_order (ways_of (row_of l.self)) (ways_of (row_of l.others))
