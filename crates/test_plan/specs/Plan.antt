-- What a test's file makes of the test.
-- After LLVM Testing Infrastructure Guide, 'Constraining test execution', and LLVM Command Guide, lit: a test runs where all that
-- it requires holds and nothing that it names as unsupported does. Own rule: the order of the reasons for which nothing runs.
use Rattle.std.specs.Prelude.{ℕ, ◌&&◌, ◌≤◌, ◌^◌, not, Bool, if◌then◌else◌, List, length, Result, Ok, Err}
use Rattle.std.specs.List.{list_all, list_any}
use Rattle.tt_outside.specs.declared.request.Reply.{Reply}
use Rattle.tt_outside.specs.declared.request.Reply.TheVariants as reply
use Rattle.tt_outside.specs.declared.test_data.Test.{Test}
use Rattle.bool_exprs.specs.Expr.{Expr}
use Rattle.lit_directives.specs.Script.{Whole, script_of}
use Rattle.lit_directives.specs.declared.fault.ScriptFault.{ScriptFault}
use Rattle.bool_values.specs.Holding.{holds_in}
use Rattle.test_plan.specs.RunLines.{read_runs}
use Rattle.test_plan.specs.declared.cause.Cause.TheVariants.{Script, MissingTest, Broken, TooLarge}
use Rattle.test_plan.specs.declared.plan.Plan.{Plan}
use Rattle.test_plan.specs.declared.plan.Plan.TheVariants.{NotSupported, Unresolved, Run}
use Rattle.test_plan.specs.declared.runs.ReadRuns.{ReadRuns}
use Rattle.test_plan.specs.declared.runs.ReadRuns.TheVariants.{Lines, Refused}

-- all of these hold
abbrev pub all_hold : List (List ℕ) → List Expr → Bool
all_hold features exprs = list_all (holds_in features) exprs

-- one of these holds
abbrev pub one_holds : List (List ℕ) → List Expr → Bool
one_holds features exprs = list_any (holds_in features) exprs

-- a test whose features let it run
abbrev pub is_allowed : List (List ℕ) → Whole → Bool
is_allowed features script = all_hold features script.required && not (one_holds features script.unsupported)

-- lines that are understood run, as often as the script says, and may fail where it says so
abbrev pub run_by : List (List ℕ) → Whole → ReadRuns → Plan
run_by features script (Lines runs lines) = Run (record {
  runs = runs;
  lines = lines;
  retries = script.retries;
  may_fail = one_holds features script.xfail;
})
run_by features script (Refused cause) = Unresolved cause

-- what a script makes of a test
abbrev pub by_script : Test → Whole → Plan
by_script test script =
    if is_allowed test.features script then run_by test.features script (read_runs test script.runs) else NotSupported

abbrev pub by_reading : Test → Result Whole ScriptFault → Plan
by_reading test (Ok script) = by_script test script
by_reading test (Err fault) = Unresolved (Script fault)

-- What the reading of its file makes of a test.
abbrev pub plan_of : Test → Reply → Plan
plan_of test (reply.Bytes bytes) = by_reading test (script_of bytes)
plan_of test reply.Missing = Unresolved MissingTest
plan_of test (reply.TooLarge stream) = Unresolved TooLarge
plan_of test other = Unresolved Broken

-- a file that was read has few enough bytes to count its lines
abbrev pub IsSmall : Reply → Type 0
IsSmall (reply.Bytes bytes) = length bytes ≤ 2 ^ 30
IsSmall other = Unit {0}

-- at most 1,000 lines run, and at most 100 times again
abbrev pub IsBounded : Plan → Type 0
IsBounded (Run runs) = (length runs.lines ≤ 1000) × (runs.retries ≤ 100)
IsBounded other = Unit {0}
