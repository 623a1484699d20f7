use Rattle.std.proofs.Common.{◌≡◌, map, drop}
use Rattle.ere_tree.specs.Tree.{trees_of}
use Rattle.ere_tree.specs.View.{view}
use Rattle.ere_refs.specs.Refers.{all_refs_fit}
use Rattle.ere_refs.proofs.sets.+refs_fit.Given as goal

abbrev pub invariant-all_refs_fit-loop-one : goal.invariant-all_refs_fit-loop-one
invariant-all_refs_fit-loop-one l =
    all_refs_fit l.groups (trees_of (map view (drop l.one-index l.all)))
    ≡ all_refs_fit l.groups (trees_of (map view l.fn.all))
