use Rattle.std.proofs.Common.{◌-◌, ◌≤◌, ◌^◌}
use Rattle.tt_outside.specs.Gave.{last_of}
use Rattle.test_course.specs.Played.{Played}
use Rattle.shell_play.specs.PlayOf.{course_of}
use Rattle.test_attempts.specs.Hands.{Answered, StaysOn}
use Rattle.test_attempts.proofs.attempt.play_out.Given as goal

abbrev pub invariant-loop-end : goal.invariant-loop-end
invariant-loop-end g l = record {
  most : l.kept ≤ 2 ^ 25;
  stays : StaysOn g.R.Runner l.fn.hand l.hand;
  answered : Answered g.R.Runner l.fn.hand l.hand l.fn.entries l.entries;
  played : Played (g.R.Runner.gave l.fn.hand) (last_of 0 (g.R.Runner.begun l.fn.hand)) l.fn.entries l.entries
      l.fn.kept (course_of l.fn.play) l.kept (course_of l.play);
}

abbrev pub decreases-loop-end : goal.decreases-loop-end
decreases-loop-end g l = 2 ^ 25 - l.kept
