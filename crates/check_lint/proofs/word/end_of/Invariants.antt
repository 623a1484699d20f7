use Rattle.std.proofs.Common.{length, ◌-◌, ◌≤◌}
use Rattle.check_lint.proofs.word.end_of.Given as goal

abbrev pub invariant-loop-at : goal.invariant-loop-at
invariant-loop-at l = record { behind : l.from ≤ l.at; within : l.at ≤ length l.line }

abbrev pub decreases-loop-at : goal.decreases-loop-at
decreases-loop-at l = length l.line - l.at
