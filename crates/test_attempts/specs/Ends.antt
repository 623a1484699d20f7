-- Why nothing more is asked.
use Rattle.std.specs.Prelude.{◌≡◌, Bool, true, false}
use Rattle.test_course.specs.Course.{Course, over, asks}
use Rattle.shell_play.specs.declared.told.PlayEnd.{PlayEnd}
use Rattle.shell_play.specs.declared.told.PlayEnd.TheVariants.{Failed}
use Rattle.test_attempts.specs.declared.attempt.AttemptStop.{AttemptStop}
use Rattle.test_attempts.specs.declared.attempt.AttemptStop.TheVariants.{Ended, TooMuch}

-- nothing more is asked of a course because it is over, or because what is due has no room
abbrev pub Ends : {S : Type 0} → Course S PlayEnd → AttemptStop → Type 0
Ends (over now end) (Ended is) = is ≡ end
Ends (over now end) TooMuch = ⊥
Ends (asks now request next) (Ended is) = ⊥
Ends (asks now request next) TooMuch = Unit {0}

abbrev pub is_failed : AttemptStop → Bool
is_failed (Ended (Failed line status)) = true
is_failed stop = false
