use Rattle.std.proofs.Common.{◌≡◌, map, drop}
use Rattle.ere_tree.specs.Shape.{any_has_refs}
use Rattle.ere_tree.specs.Tree.{trees_of}
use Rattle.ere_tree.specs.View.{view}
use Rattle.ere_tree.proofs.ere.+refs.Given as goal

abbrev pub invariant-EreList::have_refs-loop-one : goal.invariant-EreList::have_refs-loop-one
invariant-EreList::have_refs-loop-one l =
    any_has_refs (trees_of (map view (drop l.one-index l.one-items)))
    ≡ any_has_refs (trees_of (map view l.fn.self.held.items))
