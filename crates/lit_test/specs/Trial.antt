-- A test as a course, and its result.
-- After LLVM Command Guide, lit, 'TEST STATUS RESULTS' and ALLOW_RETRIES. Own rules: the order of the reasons for which a test
-- is unresolved, and that a test that passes in a later attempt isn't expected to fail.
use Rattle.std.specs.Prelude.{◌≡◌, ◌++◌, ℕ, Bool, false, nat_lt, if◌then◌else◌, List, [], ◌∷◌}
use Rattle.tt_outside.specs.declared.request.Entry.{Entry}
use Rattle.tt_outside.specs.declared.request.Reply.{Reply}
use Rattle.tt_outside.specs.declared.request.Reply.TheVariants as reply
use Rattle.tt_outside.specs.declared.request.Request.{Request}
use Rattle.tt_outside.specs.declared.request.Request.TheVariants.{ReadFile}
use Rattle.tt_outside.specs.declared.test_data.Test.{Test}
use Rattle.lit_directives.specs.declared.script.RunLine.{RunLine}
use Rattle.shell_play.specs.Play.{play}
use Rattle.shell_play.specs.declared.told.PlayEnd.{PlayEnd}
use Rattle.shell_play.specs.declared.told.PlayEnd.TheVariants.{Passed, Failed, Unresolved}
use Rattle.test_course.specs.Bytes.{LIMIT, MAX_KEPT, kept_behind}
use Rattle.test_course.specs.Course.{Course, over, asks, behind, followed}
use Rattle.test_course.specs.Entries.{Follows}
use Rattle.test_attempts.specs.Attempts.{Seen, attempts_of, nothing_seen}
use Rattle.test_plan.specs.Plan.{plan_of}
use Rattle.test_plan.specs.declared.cause.Cause.{Cause}
use Rattle.test_plan.specs.declared.cause.Cause.TheVariants as cause
use Rattle.test_plan.specs.declared.plan.Plan.{Plan}
use Rattle.test_plan.specs.declared.plan.Plan.TheVariants as plan
use Rattle.test_plan.specs.declared.plan.Runs.{Runs}
use Rattle.lit_test.specs.Transcript.{seen_text, unresolved_text, unsupported_text}
use Rattle.lit_test.specs.declared.outcome.Ending.{Ending}
use Rattle.test_outcome.specs.declared.outcome.Outcome.{Outcome}
use Rattle.test_outcome.specs.declared.outcome.Outcome.TheVariants as outcome

-- ---- a test as a course

-- what a test shows: its RUN lines, whether they may fail, and its attempts
pub record TestShown : Type 0 where
  pub runs : List RunLine
  pub may_fail : Bool
  pub seen : Seen

-- how a test ends: its features keep it from running, it can't be run, or its attempts ended so
pub data TestEnd : Type 0 where
  unsupported : TestEnd
  unresolved : Cause → TestEnd
  played : PlayEnd → TestEnd

abbrev pub TestCourse : Type 0
TestCourse = Course TestShown TestEnd

abbrev pub nothing_shown : TestShown
nothing_shown = record { runs = []; may_fail = false; seen = nothing_seen }

abbrev pub shows : Runs → Seen → TestShown
shows runs seen = record { runs = runs.runs; may_fail = runs.may_fail; seen = seen }

abbrev pub ends : Runs → Seen → PlayEnd → TestCourse
ends runs seen end = over (shows runs seen) (played end)

-- what a plan comes to
abbrev pub by_plan : Test → Plan → TestCourse
by_plan test plan.NotSupported = over nothing_shown unsupported
by_plan test (plan.Unresolved cause) = over nothing_shown (unresolved cause)
by_plan test (plan.Run runs) =
    followed (shows runs) (ends runs) (attempts_of (play runs.lines test) runs.retries)

abbrev pub by_file : Test → Reply → TestCourse
by_file test reply = by_plan test (plan_of test reply)

abbrev pub read_request : Test → Request
read_request test = ReadFile test.path LIMIT

-- A test: its file is read, and what that makes of the test is done.
abbrev pub course_of : Test → TestCourse
course_of test = asks nothing_shown (read_request test) (by_file test)

-- ---- its result

abbrev pub shown_text : TestShown → List ℕ
shown_text now = seen_text now.runs now.seen.attempts now.seen.last.began now.seen.last.told

-- a test that its features keep from running
abbrev pub not_supported : Ending
not_supported = record { outcome = outcome.Unsupported; text = unsupported_text }

-- behind what is shown, why the test is unresolved
abbrev pub unresolved_by : List ℕ → Cause → Ending
unresolved_by text cause = record { outcome = outcome.Unresolved; text = text ++ unresolved_text cause }

-- why a reply ends a play
abbrev pub cause_of : Reply → Cause
cause_of (reply.TooLarge stream) = cause.TooLarge
cause_of other = cause.Broken

-- why the last reply does
abbrev pub last_cause : Cause → List Entry → Cause
last_cause last [] = last
last_cause last (entry ∷ entries) = last_cause (cause_of entry.reply) entries

abbrev pub passed : Bool → ℕ → Outcome
passed may_fail attempts =
    if nat_lt 1 attempts then outcome.Flakypass else if may_fail then outcome.Xpass else outcome.Pass

abbrev pub failed : Bool → Outcome
failed may_fail = if may_fail then outcome.Xfail else outcome.Fail

-- how a test ended that was run to its end, unless too many bytes are kept
abbrev pub resolved : ℕ → List ℕ → Outcome → Ending
resolved kept text is =
    if nat_lt MAX_KEPT kept then unresolved_by text cause.TooMuch else record { outcome = is; text = text }

abbrev pub ending_by : ℕ → Cause → TestShown → TestEnd → Ending
ending_by kept last now unsupported = not_supported
ending_by kept last now (unresolved cause) = unresolved_by [] cause
ending_by kept last now (played Unresolved) = unresolved_by (shown_text now) last
ending_by kept last now (played Passed) =
    resolved kept (shown_text now) (passed now.may_fail now.seen.attempts)
ending_by kept last now (played (Failed line status)) = resolved kept (shown_text now) (failed now.may_fail)

-- how a test ended where nothing more is asked: so many bytes are kept, and this is why the last reply would end a play
abbrev pub ending_at : ℕ → Cause → TestCourse → Ending
ending_at kept last (over now end) = ending_by kept last now end
ending_at kept last (asks now request next) = unresolved_by (shown_text now) cause.TooMuch

-- How a test ended, by its entries.
abbrev pub ending_of : Test → List Entry → Ending
ending_of test entries =
    ending_at (kept_behind 0 entries) (last_cause cause.Broken entries) (behind (course_of test) entries)

-- ---- a trial

-- Entries are those of a test, and this is its result and its transcript.
pub record IsTrial (test : Test) (entries : List Entry) (result : Outcome) (text : List ℕ) : Type 0 where
  pub trace : Follows 0 (course_of test) entries
  pub ended : (ending_of test entries).outcome ≡ result
  pub told : (ending_of test entries).text ≡ text
