use Rattle.std.proofs.Common.{◌≡◌, ◌+◌, ◌-◌, length}
use Rattle.ere_table.specs.Node.{node_at}
use Rattle.ere_auto.specs.Closing.{Closing}
use Rattle.ere_auto.proofs.closure.close.Given as goal

abbrev pub invariant-loop-index : goal.invariant-loop-index
invariant-loop-index l = record {
  closing : Closing l.starts l.ends (node_at l.table.nodes.items) l.seeds l.reached.held.items l.index l.next;
  all : l.next ≡ length l.reached.held.items;
  nodes : length l.reached.marks ≡ length l.fn.reached.marks;
}

abbrev pub invariant-loop-next : goal.invariant-loop-next
invariant-loop-next l = record {
  closing : Closing l.starts l.ends (node_at l.table.nodes.items) l.seeds l.reached.held.items (l.index + 1) l.next;
  nodes : length l.reached.marks ≡ length l.fn.reached.marks;
}

abbrev pub decreases-loop-next : goal.decreases-loop-next
decreases-loop-next l = length l.reached.marks - l.next
