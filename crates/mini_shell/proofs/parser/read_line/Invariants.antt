use Rattle.std.proofs.Common.{◌-◌, ◌≤◌, length}
use Rattle.mini_shell.proofs.ReadingLemmas.{Rests}
use Rattle.mini_shell.proofs.parser.read_line.Given as goal

abbrev pub invariant-loop-token : goal.invariant-loop-token
invariant-loop-token l = record { within : l.at ≤ length l.text; rest : Rests l.text l.at l.reader }

abbrev pub decreases-loop-token : goal.decreases-loop-token
decreases-loop-token l = length l.text - l.at
