use Rattle.std.proofs.Common.{◌≡◌, ◌≤◌, ◌-◌, ℕ, length, drop}
use Rattle.input_dump.specs.Dump.{any_close}
use Rattle.input_dump.proofs.cursor.passed_by.Given as goal

-- what was passed is near no line from here on
abbrev pub invariant-loop-passed : goal.invariant-loop-passed
invariant-loop-passed l = record {
  within : l.passed ≤ length l.lines;
  same : (line : ℕ) → l.number ≤ line → any_close l.context line (drop l.passed l.lines) ≡ any_close l.context line (drop l.initial.passed l.lines);
}

abbrev pub decreases-loop-passed : goal.decreases-loop-passed
decreases-loop-passed l = length l.lines - l.passed
