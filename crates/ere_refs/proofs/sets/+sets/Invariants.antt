use Rattle.std.proofs.Common.{◌≡◌, map, drop}
use Rattle.ere_tree.specs.Tree.{trees_of}
use Rattle.ere_tree.specs.View.{view}
use Rattle.ere_refs.specs.Sets.{any_sets}
use Rattle.ere_refs.proofs.sets.+sets.Given as goal

abbrev pub invariant-any_sets-loop-one : goal.invariant-any_sets-loop-one
invariant-any_sets-loop-one l =
    any_sets (trees_of (map view (drop l.one-index l.all))) l.number ≡ any_sets (trees_of (map view l.fn.all)) l.number
