use Rattle.std.proofs.Common.{◌≤◌}
use Rattle.ere_table.specs.Node.{node_at}
use Rattle.ere_table.specs.Path.{LeadsAs}
use Rattle.ere_tree.specs.View.{view}
use Rattle.ere_auto.specs.Ends.{AreOn, AreOne, Comes}
use Rattle.ere_auto.proofs.EndsLemmas.{FoundTo}
use Rattle.ere_auto.proofs.ends.walked.Given as goal

abbrev pub invariant-loop-place : goal.invariant-loop-place
invariant-loop-place l = record {
  leads : LeadsAs l.walk.table.nodes.items l.walk.table.entry (view l.ere);
  one : AreOne l.walk.standing.held.items;
  comes : l.place ≤ l.fn.window.high
      → AreOn (Comes l.text (node_at l.walk.table.nodes.items) l.walk.table.entry l.from l.place) l.walk.standing.held.items;
  found : FoundTo l.text (view l.ere) l.fn.window l.from l.found.items l.place;
}
