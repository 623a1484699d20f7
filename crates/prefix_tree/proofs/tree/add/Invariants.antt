use Rattle.std.proofs.Common.{◌≡◌, [], get_or, take}
use Rattle.prefix_tree.specs.Tree.{Leads}
use Rattle.prefix_tree.specs.Turns.{next_of}
use Rattle.prefix_tree.proofs.TreeLemmas.{AreTurns}
use Rattle.prefix_tree.specs.Tree.{NextStay}
use Rattle.prefix_tree.proofs.tree.add.Given as goal

abbrev pub invariant-loop-length : goal.invariant-loop-length
invariant-loop-length l = record {
  same : take l.length (get_or l.prefixes l.owner []) ≡ take l.length l.prefix;
  turns : AreTurns l.prefixes (next_of l.turns);
  stay : NextStay (next_of l.fn.turns) (next_of l.turns);
  ends : l.turns.end ≡ l.fn.turns.end;
  leads : Leads (next_of l.turns) 0 0 (take l.length l.prefix) l.owner;
}
