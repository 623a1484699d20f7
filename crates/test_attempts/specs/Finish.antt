-- What a test's attempts leave.
-- Own rule: what is shown is the last attempt that began, and how many did.
use Rattle.std.specs.Prelude.{◌≡◌, ℕ, List}
use Rattle.tt_outside.specs.Gave.{Gave, last_of}
use Rattle.tt_outside.specs.declared.crew.Runner.{Ghosts as OfRunner}
use Rattle.tt_outside.specs.declared.request.Entry.{Entry}
use Rattle.tt_outside.specs.declared.test_data.Test.{Test}
use Rattle.mini_shell.specs.declared.line.Line.{Line}
use Rattle.test_course.specs.Course.{shown}
use Rattle.test_course.specs.Played.{IsFull, Played}
use Rattle.shell_play.specs.Play.{play}
use Rattle.shell_play.specs.PlayOf.{course_of}
use Rattle.test_attempts.specs.Attempts.{AttemptsCourse, attempts_of, seen}
use Rattle.test_attempts.specs.Ends.{Ends}
use Rattle.test_attempts.specs.declared.attempts.Finished.{Finished}

-- entries behind earlier ones are what a course asks, up to where nothing more is asked, and this is left there
pub record Finishes (gave : Gave) (number : ℕ) (earlier entries : List Entry) (start : ℕ) (course : AttemptsCourse)
    (done : Finished) : Type 0 where
  pub rest : AttemptsCourse
  pub played : Played gave number earlier entries start course done.kept rest
  pub full : IsFull done.kept rest
  pub ends : Ends rest done.stop
  pub shows : shown rest ≡ seen done.attempts (shown (course_of done.last))

-- the same of lines that are played by a hand, of the test that it began last
abbrev pub FinishesBy : {H : Type 0} → OfRunner H → H → List Line → Test → ℕ → List Entry → List Entry → ℕ → Finished → Type 0
FinishesBy runner hand lines test retries earlier entries start done =
    Finishes (runner.gave hand) (last_of 0 (runner.begun hand)) earlier entries start (attempts_of (play lines test) retries) done
