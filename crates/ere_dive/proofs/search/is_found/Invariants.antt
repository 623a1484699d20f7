use Rattle.std.proofs.Common.{◌≤◌}
use Rattle.ere_dive.specs.Dive.{AllLead}
use Rattle.ere_dive.proofs.search.is_found.Given as goal

abbrev pub invariant-loop : goal.invariant-loop
invariant-loop l = record {
  leads : AllLead l.site l.stack.items;
  left : l.left ≤ l.fn.left;
}
