use Rattle.std.proofs.Common.{◌≢◌}
use Rattle.std.specs.List.{Contains}
use Rattle.ere_dive.specs.declared.task.Held.{Held}
use Rattle.ere_dive.proofs.open.closed.Given as goal

abbrev pub invariant-loop-one : goal.invariant-loop-one
invariant-loop-one l = (x : Held) → Contains l.found.items x → Contains l.held x × (x.number ≢ l.number)
