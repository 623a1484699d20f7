use Rattle.std.proofs.Common.{map, take}
use Rattle.ere_tree.specs.Tree.{trees_of}
use Rattle.ere_tree.specs.View.{view}
use Rattle.ere_relaxed.specs.CopiesView.{copies_of}
use Rattle.ere_relaxed.specs.Freed.{AreFreed}
use Rattle.ere_relaxed.proofs.freed.+freed.Given as goal

abbrev pub invariant-all_freed_by-loop-one : goal.invariant-all_freed_by-loop-one
invariant-all_freed_by-loop-one l =
    AreFreed (copies_of l.fn.copies) (trees_of (map view (take l.one-index l.fn.all)))
    (trees_of (map view l.made.items))
