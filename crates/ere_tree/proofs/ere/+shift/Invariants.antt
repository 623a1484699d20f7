use Rattle.std.proofs.Common.{◌≡◌, ◌++◌, ◌+◌, ◌^◌, ◌<◌, ◌*◌, map, take, drop}
use Rattle.ere_tree.specs.Shape.{shifted, greatest_number_of}
use Rattle.ere_tree.specs.Tree.{trees_of}
use Rattle.ere_tree.specs.View.{view}
use Rattle.ere_tree.proofs.ere.+shift.Given as goal

abbrev pub invariant-EreList::shift-loop-one : goal.invariant-EreList::shift-loop-one
invariant-EreList::shift-loop-one l = record {
  unvisited : goal.unvisited-EreList::shift-loop-one l;
  small : greatest_number_of (trees_of (map view (drop l.one-index l.one-items))) + l.by < 2 ^ 31;
  whole : map view (take l.one-index l.one-items) ++ map (shifted l.by) (map view (drop l.one-index l.one-items))
      ≡ map (shifted l.by) (map view l.fn.self.held.items);
}

abbrev pub decreases-Ere::raised : goal.decreases-Ere::raised
decreases-Ere::raised l = 2 * goal.size-Ere::raised l

abbrev pub decreases-Ere::shift : goal.decreases-Ere::shift
decreases-Ere::shift l = 2 * goal.size-Ere::shift l + 1

abbrev pub decreases-EreList::shift : goal.decreases-EreList::shift
decreases-EreList::shift l = 2 * goal.size-EreList::shift l
