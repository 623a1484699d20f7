use Rattle.std.proofs.Common.{◌≡◌, ◌-◌, length}
use Rattle.ere_table.specs.Node.{node_at}
use Rattle.ere_auto.specs.Closure.{MetFirst}
use Rattle.ere_auto.specs.Moved.{Moved}
use Rattle.ere_auto.proofs.moves.go_on.Given as goal

abbrev pub invariant-loop-used : goal.invariant-loop-used
invariant-loop-used l = record {
  moved : Moved (node_at l.table.nodes.items) l.seeds l.reached l.moved.held.items l.next l.used;
  met : MetFirst l.seeds l.reached l.used l.met;
  nodes : length l.moved.marks ≡ length l.fn.moved.marks;
}

abbrev pub decreases-loop-used : goal.decreases-loop-used
decreases-loop-used l = length l.reached - l.used
