use Rattle.lit_find.proofs.Names.{◌≡◌, List, [], Some, None, map, take, true, are_nested, Node, Leaves, joined, IsCovered}
use Rattle.lit_find.proofs.finding.add_words.Given as goal

abbrev pub invariant-loop-text : goal.invariant-loop-text
invariant-loop-text g l = record {
  tree : Leaves g.T.Tree.nodes g.T.Tree.root g.T.Tree.faults g.T.Tree.steady l.fn.tree l.tree None;
  covered : (nodes : List Node) → g.T.Tree.nodes l.fn.tree ≡ Some nodes → are_nested nodes ≡ true
      → IsCovered nodes [] l.fn.seen l.fn.walk
      → IsCovered nodes (map (joined l.base) (take l.text-index l.texts)) l.seen l.walk;
}
