use Rattle.std.proofs.Common.{◌≡◌, drop}
use Rattle.lit_test.specs.Trial.{last_cause}
use Rattle.test_plan.specs.declared.cause.Cause.TheVariants.{Broken}
use Rattle.lit_test.proofs.ending.last_cause.Given as goal

abbrev pub invariant-loop-entry : goal.invariant-loop-entry
invariant-loop-entry l = last_cause l.cause (drop l.entry-index l.entries) ≡ last_cause Broken l.entries
