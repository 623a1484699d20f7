use Rattle.std.proofs.Common.{◌≤◌, length, drop}
use Rattle.ere_table.specs.Node.{node_at}
use Rattle.ere_table.specs.Stands.{PlainStands}
use Rattle.ere_table.specs.Table.{Grows}
use Rattle.ere_table.proofs.table.NodeTable.put_bytes.Given as goal

abbrev pub invariant-loop-left : goal.invariant-loop-left
invariant-loop-left l = record {
  within : l.left ≤ length l.bytes;
  stands : PlainStands (node_at l.self.nodes.items) (drop l.left l.bytes) l.self.entry l.fn.self.entry;
  grows : Grows l.fn.self.nodes.items l.self.nodes.items;
}

abbrev pub decreases-loop-left : goal.decreases-loop-left
decreases-loop-left l = l.left
