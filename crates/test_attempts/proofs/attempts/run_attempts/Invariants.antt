use Rattle.std.proofs.Common.{◌-◌, ◌≤◌, ◌^◌}
use Rattle.tt_outside.specs.Gave.{last_of}
use Rattle.test_course.specs.Course.{shown}
use Rattle.test_course.specs.Played.{Played}
use Rattle.shell_play.specs.Play.{play}
use Rattle.shell_play.specs.PlayOf.{course_of}
use Rattle.test_attempts.specs.Attempts.{attempts, attempts_of, seen}
use Rattle.test_attempts.specs.Hands.{Answered, StaysOn}
use Rattle.test_attempts.proofs.attempts.run_attempts.Given as goal

abbrev pub invariant-loop-last : goal.invariant-loop-last
invariant-loop-last g l = record {
  most : l.kept ≤ 2 ^ 25;
  few : l.attempts ≤ l.retries;
  stays : StaysOn g.R.Runner l.fn.hand l.hand;
  answered : Answered g.R.Runner l.fn.hand l.hand l.fn.entries l.entries;
  played : Played (g.R.Runner.gave l.fn.hand) (last_of 0 (g.R.Runner.begun l.fn.hand)) l.fn.entries l.entries l.fn.kept
      (attempts_of (play l.lines l.test) l.retries) l.kept
      (attempts (play l.lines l.test) (l.retries - l.attempts) l.attempts (seen l.attempts (shown (course_of l.last))));
}

abbrev pub decreases-loop-last : goal.decreases-loop-last
decreases-loop-last g l = l.retries - l.attempts
