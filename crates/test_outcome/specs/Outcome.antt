-- The results of tests.
-- After LLVM Command Guide, lit, 'TEST STATUS RESULTS', for their names and for what fails a run: a test that failed, one that
-- passed though it was expected to fail, and one that couldn't be run. Own rule: how a summary names them.
use Rattle.std.specs.Prelude.{ℕ, Bool, true, false, List, codes}
use Rattle.test_outcome.specs.declared.outcome.Outcome.{Outcome}
use Rattle.test_outcome.specs.declared.outcome.Outcome.TheVariants.{Pass, Flakypass, Fail, Xfail, Xpass, Unsupported, Unresolved}

abbrev pub name_of : Outcome → List ℕ
name_of Pass = codes "PASS"
name_of Flakypass = codes "FLAKYPASS"
name_of Fail = codes "FAIL"
name_of Xfail = codes "XFAIL"
name_of Xpass = codes "XPASS"
name_of Unsupported = codes "UNSUPPORTED"
name_of Unresolved = codes "UNRESOLVED"

-- what a summary says of tests that have it
abbrev pub label_of : Outcome → List ℕ
label_of Pass = codes "Passed"
label_of Flakypass = codes "Passed With Retry"
label_of Fail = codes "Failed"
label_of Xfail = codes "Expectedly Failed"
label_of Xpass = codes "Unexpectedly Passed"
label_of Unsupported = codes "Unsupported"
label_of Unresolved = codes "Unresolved"

abbrev pub is_failure : Outcome → Bool
is_failure Pass = false
is_failure Flakypass = false
is_failure Fail = true
is_failure Xfail = false
is_failure Xpass = true
is_failure Unsupported = false
is_failure Unresolved = true

abbrev pub is_same : Outcome → Outcome → Bool
is_same Pass Pass = true
is_same Flakypass Flakypass = true
is_same Fail Fail = true
is_same Xfail Xfail = true
is_same Xpass Xpass = true
is_same Unsupported Unsupported = true
is_same Unresolved Unresolved = true
is_same one other = false
