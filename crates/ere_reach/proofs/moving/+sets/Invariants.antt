use Rattle.std.proofs.Common.{◌≡◌, map, drop}
use Rattle.ere_reach.specs.Moving.{one_sets_one}
use Rattle.ere_tree.specs.Tree.{trees_of}
use Rattle.ere_tree.specs.View.{view}
use Rattle.ere_reach.proofs.moving.+sets.Given as goal

abbrev pub invariant-one_sets_one-loop-one : goal.invariant-one_sets_one-loop-one
invariant-one_sets_one-loop-one l =
    one_sets_one (trees_of (map view (drop l.one-index l.all))) l.live
    ≡ one_sets_one (trees_of (map view l.all)) l.live
