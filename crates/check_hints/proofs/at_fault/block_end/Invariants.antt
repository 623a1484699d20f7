use Rattle.std.proofs.Common.{◌≤◌, length}
use Rattle.check_hints.proofs.at_fault.block_end.Given as goal

abbrev pub invariant-loop-index : goal.invariant-loop-index
invariant-loop-index g l = l.place ≤ length l.input
