use Rattle.std.proofs.Common.{◌≡◌, ◌≤◌, drop, length}
use Rattle.test_plan.specs.RunLines.{onto, read_runs}
use Rattle.test_plan.proofs.runs.read_runs.Given as goal

abbrev pub invariant-loop-run : goal.invariant-loop-run
invariant-loop-run l = record {
  rest : onto l.heads l.lines (read_runs l.test (drop l.run-index l.runs)) ≡ read_runs l.test l.runs;
  few : length l.lines ≤ l.run-index;
}
