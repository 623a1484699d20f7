use Rattle.std.proofs.Common.{◌≡◌, ◌++◌, drop, map}
use Rattle.lit_report.specs.Ending.{names_of}
use Rattle.lit_report.proofs.ending.add_names.Given as goal

abbrev pub invariant-loop-test : goal.invariant-loop-test
invariant-loop-test g l =
    l.text ++ names_of l.outcome (map g.T.Reported.told (drop l.test-index l.tests))
    ≡ l.fn.text ++ names_of l.outcome (map g.T.Reported.told l.tests)
