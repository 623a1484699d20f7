use Rattle.std.proofs.Common.{◌≤◌, length, map, drop}
use Rattle.ere_tree.specs.Tree.{cat, trees_of}
use Rattle.ere_tree.specs.View.{view}
use Rattle.ere_one.specs.Walk.{Tells}
use Rattle.ere_one.specs.declared.walking.Walked.{Walked}
use Rattle.ere_one.proofs.walking.+walk.Given as goal

abbrev pub invariant-walk_all-loop-index : goal.invariant-walk_all-loop-index
invariant-walk_all-loop-index l = record {
  within : l.place ≤ length l.slice;
  rest : (r : Walked) → Tells l.slice (cat (trees_of (map view (drop l.index l.parts)))) l.follow l.place r
      → Tells l.slice (cat (trees_of (map view l.parts))) l.follow l.at r;
}
