use Rattle.std.proofs.Common.{◌≡◌, map, drop}
use Rattle.ere_tree.specs.Tree.{trees_of}
use Rattle.ere_tree.specs.View.{view}
use Rattle.ere_reach.specs.Live.{one_surely_sets, all_surely_set}
use Rattle.ere_reach.proofs.live.+surely.Given as goal

abbrev pub invariant-one_surely_sets-loop-one : goal.invariant-one_surely_sets-loop-one
invariant-one_surely_sets-loop-one l =
    one_surely_sets (trees_of (map view (drop l.one-index l.all))) l.number
    ≡ one_surely_sets (trees_of (map view l.fn.all)) l.number

abbrev pub invariant-all_surely_set-loop-one : goal.invariant-all_surely_set-loop-one
invariant-all_surely_set-loop-one l =
    all_surely_set (trees_of (map view (drop l.one-index l.all))) l.number
    ≡ all_surely_set (trees_of (map view l.fn.all)) l.number
