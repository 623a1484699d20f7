use Rattle.std.proofs.Common.{◌≡◌, ◌≤◌, ◌-◌, length}
use Rattle.input_dump.specs.Dump.{line_at}
use Rattle.input_dump.specs.Follow.{BeginsLine}
use Rattle.input_dump.proofs.newlines.begin_before.Given as goal

-- the line of a number begins here
abbrev pub invariant-loop-number : goal.invariant-loop-number
invariant-loop-number l = record {
  begins : BeginsLine l.text l.from;
  number : line_at l.text l.from ≡ l.number;
  within : l.from ≤ l.at;
  before : l.wanted ≤ l.number;
}

abbrev pub decreases-loop-number : goal.decreases-loop-number
decreases-loop-number l = l.number
