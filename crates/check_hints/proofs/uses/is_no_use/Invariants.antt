use Rattle.std.proofs.Common.{◌≤◌, length}
use Rattle.check_hints.proofs.uses.is_no_use.Given as goal

abbrev pub invariant-loop-rest : goal.invariant-loop-rest
invariant-loop-rest l = length l.rest ≤ length l.behind

abbrev pub decreases-loop-rest : goal.decreases-loop-rest
decreases-loop-rest l = length l.rest
