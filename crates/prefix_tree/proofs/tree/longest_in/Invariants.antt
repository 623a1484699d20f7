use Rattle.std.proofs.Common.{◌≤◌, ◌-◌, length}
use Rattle.prefix_tree.specs.Turns.{end_of, next_of}
use Rattle.prefix_tree.proofs.TreeLemmas.{Walked}
use Rattle.prefix_tree.proofs.tree.longest_in.Given as goal

abbrev pub invariant-loop-length : goal.invariant-loop-length
invariant-loop-length l = record {
  within : l.length ≤ length l.text;
  walked : ∥ Walked l.prefixes l.text (next_of l.turns) (end_of l.turns) l.owner l.length l.best ∥₁;
}

abbrev pub decreases-loop-length : goal.decreases-loop-length
decreases-loop-length l = length l.text - l.length
