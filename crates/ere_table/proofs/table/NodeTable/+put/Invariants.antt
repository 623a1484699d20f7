use Rattle.std.proofs.Common.{◌+◌, ◌-◌, ◌≤◌, length, drop, map}
use Rattle.ere_tree.specs.Tree.{trees_of}
use Rattle.ere_tree.specs.View.{view}
use Rattle.ere_table.specs.Node.{node_at}
use Rattle.ere_table.specs.Stands.{LoopStands, CopiesStand, Stands, AllStand, OneStands}
use Rattle.ere_table.specs.Table.{Grows}
use Rattle.ere_table.proofs.table.NodeTable.+put.Given as goal

abbrev pub invariant-put_all-loop-left : goal.invariant-put_all-loop-left
invariant-put_all-loop-left l = record {
  within : l.left ≤ length l.parts;
  stands :
      AllStand (node_at l.self.nodes.items) (trees_of (map view (drop l.left l.parts))) l.self.entry l.fn.self.entry;
  grows : Grows l.fn.self.nodes.items l.self.nodes.items;
}

abbrev pub decreases-put_all-loop-left : goal.decreases-put_all-loop-left
decreases-put_all-loop-left l = l.left

abbrev pub invariant-put_one-loop-left : goal.invariant-put_one-loop-left
invariant-put_one-loop-left l = record {
  within : l.left ≤ length l.choices;
  stands :
      OneStands (node_at l.self.nodes.items) (trees_of (map view (drop l.left l.choices))) l.self.entry l.next;
  grows : Grows l.fn.self.nodes.items l.self.nodes.items;
}

abbrev pub decreases-put_one-loop-left : goal.decreases-put_one-loop-left
decreases-put_one-loop-left l = l.left

abbrev pub invariant-put_loop-loop : goal.invariant-put_loop-loop
invariant-put_loop-loop l = record {
  stands :
      LoopStands (node_at l.self.nodes.items) (Stands (node_at l.self.nodes.items) (view l.inner)) l.counter l.self.entry l.next;
  grows : Grows l.fn.self.nodes.items l.self.nodes.items;
}

abbrev pub invariant-put_copies-loop : goal.invariant-put_copies-loop
invariant-put_copies-loop l = record {
  stands :
      CopiesStand (node_at l.self.nodes.items) (Stands (node_at l.self.nodes.items) (view l.inner))
      (l.least - l.most) (l.counter - l.least) l.self.entry l.next;
  few : l.counter - l.least ≤ l.most - l.least;
  grows : Grows l.fn.self.nodes.items l.self.nodes.items;
}

abbrev pub invariant-put_copies-loop-2 : goal.invariant-put_copies-loop-2
invariant-put_copies-loop-2 l = record {
  stands :
      CopiesStand (node_at l.self.nodes.items) (Stands (node_at l.self.nodes.items) (view l.inner))
      (l.least - l.most + l.counter) (l.most - l.least + l.counter) l.self.entry l.next;
  grows : Grows l.fn.self.nodes.items l.self.nodes.items;
}
