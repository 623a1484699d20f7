-- The loop over attempts: what was played behind the entries before it is what the attempts so far played.
-- Each turn is one of three ends of an attempt: it asked nothing, it is the last, or another one follows.
-- The long goal is `loop-last-preserved`, an attempt that failed with some left.
use Rattle.std.proofs.Common.{◌≡◌, ◌≢◌, ◌⊎◌, inl, inr, [], false, true, length, ◌+◌, ◌-◌, suc, arith}
use Rattle.test_course.specs.Course.{followed, shown}
use Rattle.test_course.specs.Played.{IsFull}
use Rattle.shell_play.specs.Play.{play}
use Rattle.shell_play.specs.PlayOf.{course_of}
use Rattle.test_attempts.specs.Attempts.{attempts, seen}
use Rattle.test_attempts.specs.Ends.{is_failed}
use Rattle.test_attempts.proofs.AttemptLemmas.{again, by_left, full_as, held, last_one, onward, unmoved}
use Rattle.test_attempts.proofs.HandLemmas.{answered_trans, played_there, stays_trans}
use Rattle.test_attempts.proofs.attempts.run_attempts.Goals as goal
use Rattle.test_attempts.proofs.attempts.run_attempts.Goals.{then-len-before, else-len-before+then-attempts-retries, then-attempts-retries-via-then-attempts-retries, then-attempts-retries-via-else-attempts-retries+then-not-is_failed}

pub returns-in_err-end-clause-stays : goal.returns-in_err-end-clause-stays
returns-in_err-end-clause-stays g c = stays_trans _ _ _ _ c.loop-last.invariant.stays c.play_out.ensures.stays

pub returns-clause-finishes : goal.returns-clause-finishes
returns-clause-finishes g c =
    let i = c.loop-last.invariant in
    let end = c.in_ok-end.ensures in
    let left = c.args.retries - c.loop-last.attempts in
    let plays = play c.args.lines.now c.args.test.now in
    let played = played_there g.R.Runner _ _ _ _ _ _ _ _ _ i.stays c.in_ok-play.ensures end.played in
    elim c.if-len-before.branch [
      | then-len-before w ↦ let same : length c.play_out.new.entries ≡ length c.loop-last.entries =
          omega (arith, w.if-len-before.true, c.len.ensures, c.len-before.ensures) in
          let stays = unmoved _ _ _ _ _ _ _ _ played same i.most in
          let full : IsFull c.loop-last.kept plays = full_as _ _ _ _ stays.1 stays.2 end.full in
          let before = seen c.loop-last.attempts (shown (course_of c.loop-last.last)) in
          let holds = held (record { told = []; began = 0 }) _ _ left c.loop-last.attempts c.loop-last.kept before full in
          rw w.stop-is (rw w.last-is (rw w.attempts-is (rw w.kept-is (record {
            rest = attempts plays left c.loop-last.attempts before;
            played = rw (stays.0) i.played;
            full = holds.0;
            ends = holds.1;
            shows = holds.2;
          }))))
      | else-len-before+then-attempts-retries w ↦ let differ : length c.play_out.new.entries ≢ length c.loop-last.entries =
          λ same. w.if-len-before.false (omega (arith, same, c.len.ensures, c.len-before.ensures)) in
          let which : (left ≡ 0) ⊎ (is_failed c.in_ok-end.end.stop ≡ false) =
          elim w.then-attempts-retries.branch [
            | then-attempts-retries-via-then-attempts-retries v ↦ inl (omega (arith, v.if-attempts-retries.true))
            | then-attempts-retries-via-else-attempts-retries+then-not-is_failed v ↦ inr (cc (v.is_failed.ensures))
          ] in
          let lasts = last_one plays (course_of c.play_out.new.play) left (c.loop-last.attempts + 1) c.in_ok-end.end.kept
          c.in_ok-end.end.stop which end.ends end.full in
          rw w.stop-is (rw w.last-is (rw w.attempts-is (rw w.kept-is (record {
            rest = followed (seen (c.loop-last.attempts + 1)) (by_left plays left (c.loop-last.attempts + 1)) (course_of c.play_out.new.play);
            played = again _ _ _ _ _ _ _ _ _ _ _ _ _ _ i.played played differ;
            full = lasts.0;
            ends = lasts.1;
            shows = lasts.2;
          }))))
    ]

pub returns-clause-answered : goal.returns-clause-answered
returns-clause-answered g c =
    let i = c.loop-last.invariant in
    let end = c.in_ok-end.ensures in
    answered_trans g.R.Runner _ _ _ _ _ _ _ _ i.answered end.answered i.played.whole end.played.whole

pub loop-last-preserved : goal.loop-last-preserved
loop-last-preserved g c =
    let i = c.loop-last.invariant in
    let end = c.in_ok-end.ensures in
    let left = c.args.retries - c.loop-last.attempts in
    let fewer = c.args.retries - (c.loop-last.attempts + 1) in
    let played = played_there g.R.Runner _ _ _ _ _ _ _ _ _ i.stays c.in_ok-play.ensures end.played in
    let differ : length c.play_out.new.entries ≢ length c.loop-last.entries =
    λ same. c.if-len-before.false (omega (arith, same, c.len.ensures, c.len-before.ensures)) in
    let some : left ≡ suc fewer = omega (arith, c.if-attempts-retries.false) in
    let failed : is_failed c.in_ok-end.end.stop ≡ true = cc (c.is_failed.ensures) in
    record {
      most = end.most;
      few = omega (arith, c.if-attempts-retries.false);
      stays = stays_trans _ _ _ _ i.stays end.stays;
      answered = answered_trans g.R.Runner _ _ _ _ _ _ _ _ i.answered end.answered i.played.whole end.played.whole;
      played = onward _ _ _ _ _ _ _ (play c.args.lines.now c.args.test.now) left fewer (c.loop-last.attempts + 1) _ _ some failed
          end.ends (again _ _ _ _ _ _ _ _ _ _ _ _ _ _ i.played played differ);
    }
