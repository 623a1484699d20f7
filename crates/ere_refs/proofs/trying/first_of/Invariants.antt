use Rattle.std.proofs.Common.{◌≡◌}
use Rattle.ere_refs.proofs.trying.first_of.Given as goal

abbrev pub invariant-loop-held : goal.invariant-loop-held
invariant-loop-held l = l.held-iterator.rest.items ≡ l.fn.lists.items
