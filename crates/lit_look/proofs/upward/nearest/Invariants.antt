use Rattle.std.proofs.Common.{◌≡◌, ◌++◌, List, Some, None, length, true}
use Rattle.std.specs.List.{list_all}
use Rattle.lit_paths.specs.Paths.{Parts}
use Rattle.lit_look.proofs.ClimbLemmas.{Climbs}
use Rattle.lit_look.proofs.upward.nearest.Given as goal
use Rattle.lit_look.specs.Looks.{Extends}
use Rattle.lit_look.specs.Seen.{AreLooks}
use Rattle.lit_look.specs.Trees.{Leaves}
use Rattle.tt_outside.specs.TreeMap.{are_nested, is_part}
use Rattle.tt_outside.specs.declared.tree.Node.{Node}

abbrev pub invariant-loop-number : goal.invariant-loop-number
invariant-loop-number g l = record {
  parts : list_all is_part l.at ≡ true;
  inside : (rest : Parts) × (l.fn.dir ≡ l.at ++ rest);
  climbs : (nodes : List Node) → g.T.Tree.nodes l.fn.tree ≡ Some nodes → AreLooks nodes l.fn.seen
      → are_nested nodes ≡ true → Climbs nodes l.fn.dir l.at l.fn.seen l.seen;
  extends : Extends l.fn.seen l.seen;
  tree : Leaves g.T.Tree.nodes g.T.Tree.root g.T.Tree.faults g.T.Tree.steady l.fn.tree l.tree None;
}

abbrev pub decreases-loop-number : goal.decreases-loop-number
decreases-loop-number g l = length l.at
