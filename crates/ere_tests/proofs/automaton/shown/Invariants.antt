use Rattle.std.proofs.Common.{◌≤◌}
use Rattle.ere_tests.proofs.automaton.shown.Given as goal

abbrev pub invariant-loop-index : goal.invariant-loop-index
invariant-loop-index g l = l.automaton.at ≤ l.index
