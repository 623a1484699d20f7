use Rattle.prefix_tree.specs.Tree.{IsTree}
use Rattle.prefix_tree.specs.Turns.{end_of, next_of}
use Rattle.prefix_tree.proofs.tree.turns_of.Given as goal

abbrev pub invariant-loop-index : goal.invariant-loop-index
invariant-loop-index l = IsTree (next_of l.turns) (end_of l.turns) l.prefixes l.index
