use Rattle.std.proofs.Common.{◌≡◌, ◌+◌, ◌-◌, ◌^◌, ◌≤◌, map, min, drop}
use Rattle.ere_tree.specs.Shape.{size_of_all}
use Rattle.ere_tree.specs.Tree.{trees_of}
use Rattle.ere_tree.specs.View.{view}
use Rattle.ere_tree.proofs.ere.+size.Given as goal

abbrev pub invariant-EreList::total_size-loop-one : goal.invariant-EreList::total_size-loop-one
invariant-EreList::total_size-loop-one l = record {
  small : l.total ≤ 2 ^ 64 - 1;
  whole : min (l.total + size_of_all (trees_of (map view (drop l.one-index l.one-items)))) (2 ^ 64 - 1)
      ≡ min (size_of_all (trees_of (map view l.fn.self.held.items))) (2 ^ 64 - 1);
}
