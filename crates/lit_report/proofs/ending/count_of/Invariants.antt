use Rattle.std.proofs.Common.{◌≡◌, ◌+◌, ◌≤◌, drop, map}
use Rattle.lit_report.specs.Ending.{count_of}
use Rattle.lit_report.proofs.ending.count_of.Given as goal

abbrev pub invariant-loop-test : goal.invariant-loop-test
invariant-loop-test g l = record {
  counted : l.count + count_of l.outcome (map g.T.Reported.told (drop l.test-index l.tests))
      ≡ count_of l.outcome (map g.T.Reported.told l.tests);
  within : l.count ≤ l.test-index;
}
