use Rattle.std.proofs.Common.{◌≡◌, ◌++◌}
use Rattle.std.specs.Vec.Iter.{into_iter_items}
use Rattle.ere_tree.specs.View.{view}
use Rattle.lit_select.specs.Finder.{IsFor}
use Rattle.lit_select.specs.Selection.{chosen}
use Rattle.lit_select.proofs.selection.chosen.Given as goal

abbrev pub invariant-loop-test : goal.invariant-loop-test
invariant-loop-test g l = record {
  done : l.kept ++ chosen l.is_wanted (view l.ere) (into_iter_items l.test-iterator)
      ≡ chosen l.is_wanted (view l.ere) l.fn.tests;
  finds : IsFor l.finder (view l.ere);
}
