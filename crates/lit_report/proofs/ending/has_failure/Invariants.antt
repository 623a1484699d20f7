use Rattle.std.proofs.Common.{◌≡◌, drop, map}
use Rattle.std.specs.List.{list_any}
use Rattle.test_outcome.specs.Outcome.{is_failure}
use Rattle.lit_report.proofs.ending.has_failure.Given as goal

abbrev pub invariant-loop-test : goal.invariant-loop-test
invariant-loop-test g l =
    list_any (λ test. is_failure test.result) (map g.T.Reported.told (drop l.test-index l.tests))
    ≡ list_any (λ test. is_failure test.result) (map g.T.Reported.told l.tests)
