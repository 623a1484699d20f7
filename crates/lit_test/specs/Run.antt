-- What running a test leaves.
-- Own rule: what is told of a test is read at the place of its course where nothing more is asked.
use Rattle.std.specs.Prelude.{◌≡◌, ℕ, List, []}
use Rattle.tt_outside.specs.Gave.{Gave, last_of}
use Rattle.tt_outside.specs.declared.request.Entry.{Entry}
use Rattle.tt_outside.specs.declared.test_data.Test.{Test}
use Rattle.tt_outside.specs.declared.crew.Runner.{Ghosts as OfRunner}
use Rattle.test_attempts.specs.Attempts.{seen}
use Rattle.test_attempts.specs.declared.attempt.AttemptStop.{AttemptStop}
use Rattle.test_attempts.specs.declared.attempt.AttemptStop.TheVariants.{Ended, TooMuch}
use Rattle.test_attempts.specs.declared.attempts.Finished.{Finished}
use Rattle.shell_play.specs.PlayOf.{course_of as left_of}
use Rattle.test_course.specs.Course.{shown}
use Rattle.test_course.specs.Entries.{AreGiven, Follows}
use Rattle.test_course.specs.Played.{IsFull, Played}
use Rattle.test_plan.specs.declared.cause.Cause.{Cause}
use Rattle.test_plan.specs.declared.cause.Cause.TheVariants as cause
use Rattle.test_plan.specs.declared.plan.Plan.{Plan}
use Rattle.test_plan.specs.declared.plan.Runs.{Runs}
use Rattle.lit_test.specs.Trial.{TestCourse, TestShown, by_plan, course_of, ending_at, ending_by, ending_of, last_cause, played, shown_text, shows, unresolved_by}
use Rattle.lit_test.specs.declared.outcome.Ending.{Ending}

-- how attempts ended that show this, by why nothing more is asked of them
abbrev pub ending_stopped : ℕ → Cause → TestShown → AttemptStop → Ending
ending_stopped kept last now (Ended end) = ending_by kept last now (played end)
ending_stopped kept last now TooMuch = unresolved_by (shown_text now) cause.TooMuch

-- what is shown of attempts that left this, and how their test ended
abbrev pub shown_by : Runs → Finished → TestShown
shown_by runs done = shows runs (seen done.attempts (shown (left_of done.last)))

abbrev pub ending_left : Runs → Finished → Cause → Ending
ending_left runs done last = ending_stopped done.kept last (shown_by runs done) done.stop

-- entries behind earlier ones are what a plan asks, up to where nothing more is asked, and so the test ended
pub record EndsPlan (gave : Gave) (number : ℕ) (test : Test) (plan : Plan) (earlier entries : List Entry) (start : ℕ)
    (ending : Ending) : Type 0 where
  pub kept : ℕ
  pub rest : TestCourse
  pub along : Played gave number earlier entries start (by_plan test plan) kept rest
  pub full : IsFull kept rest
  pub told : ending ≡ ending_at kept (last_cause cause.Broken entries) rest

-- the same by a hand, of the test that it began last
abbrev pub EndsBy : {H : Type 0} → OfRunner H → H → Test → Plan → List Entry → List Entry → ℕ → Ending → Type 0
EndsBy runner hand test plan earlier entries start ending =
    EndsPlan (runner.gave hand) (last_of 0 (runner.begun hand)) test plan earlier entries start ending

-- entries are those of a test, each was given, and so the test ended
pub record EndsTest (gave : Gave) (number : ℕ) (test : Test) (entries : List Entry) (ending : Ending) : Type 0 where
  pub trace : Follows 0 (course_of test) entries
  pub given : AreGiven gave number [] entries
  pub told : ending ≡ ending_of test entries

abbrev pub EndsAs : {H : Type 0} → OfRunner H → H → Test → List Entry → Ending → Type 0
EndsAs runner hand test entries ending = EndsTest (runner.gave hand) (last_of 0 (runner.begun hand)) test entries ending
