use Rattle.std.proofs.Common.{◌≡◌, map, max, drop}
use Rattle.ere_tree.specs.Shape.{greatest_group_of}
use Rattle.ere_tree.specs.Tree.{trees_of}
use Rattle.ere_tree.specs.View.{view}
use Rattle.ere_tree.proofs.ere.+groups.Given as goal

abbrev pub invariant-EreList::greatest_group-loop-one :
    goal.invariant-EreList::greatest_group-loop-one
invariant-EreList::greatest_group-loop-one l =
    max l.greatest (greatest_group_of (trees_of (map view (drop l.one-index l.one-items))))
    ≡ greatest_group_of (trees_of (map view l.fn.self.held.items))
