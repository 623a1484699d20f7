use Rattle.lit_find.proofs.Names.{◌≡◌, List, Some, None, Node, Parts, Leaves, Looked, IsWalk, room}
use Rattle.lit_find.proofs.visit.walk_all.Given as goal

abbrev pub invariant-loop-place : goal.invariant-loop-place
invariant-loop-place g l = record {
  tree : Leaves g.T.Tree.nodes g.T.Tree.root g.T.Tree.faults g.T.Tree.steady l.fn.tree l.tree None;
  walk : (nodes : List Node) (words : List Parts) (word : Parts) (first : List Looked)
      → g.T.Tree.nodes l.fn.tree ≡ Some nodes → IsWalk nodes words word first l.fn.seen l.fn.walk
      → IsWalk nodes words word first l.seen l.walk;
}

abbrev pub decreases-loop-place : goal.decreases-loop-place
decreases-loop-place g l = room l.walk
