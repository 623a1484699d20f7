use Rattle.std.proofs.Common.{◌≡◌, ◌+◌, ◌≤◌, true, sym, ap, Ok, arith}
use Rattle.tt_outside.specs.Fits.{fits}
use Rattle.tt_outside.specs.Gave.{last_of}
use Rattle.tt_outside.specs.declared.request.Entry.{Entry}
use Rattle.test_course.specs.Bytes.{IsLimited, MAX_KEPT, capped, own_bytes, reply_bytes}
use Rattle.test_course.specs.Course.{after}
use Rattle.test_course.specs.Entries.{IsDue}
use Rattle.test_course.proofs.PlayedLemmas.{played_on}
use Rattle.shell_play.specs.PlayOf.{course_of}
use Rattle.test_attempts.proofs.HandLemmas.{answered_on, stays_on}
use Rattle.test_attempts.proofs.attempt.play_out.Goals as goal

pub returns-in_err-reply-clause-stays : goal.returns-in_err-reply-clause-stays
returns-in_err-reply-clause-stays g c =
    let asked = c.ask.ensures in
    stays_on g.R.Runner _ _ _ c.loop-end.invariant.stays asked.begun asked.room asked.gave asked.ready asked.later

pub returns-in_err-take-clause-stays : goal.returns-in_err-take-clause-stays
returns-in_err-take-clause-stays g c =
    let asked = c.ask.ensures in
    stays_on g.R.Runner _ _ _ c.loop-end.invariant.stays asked.begun asked.room asked.gave asked.ready asked.later

pub returns-in_err-push-clause-stays : goal.returns-in_err-push-clause-stays
returns-in_err-push-clause-stays g c =
    let asked = c.ask.ensures in
    stays_on g.R.Runner _ _ _ c.loop-end.invariant.stays asked.begun asked.room asked.gave asked.ready asked.later

pub loop-end-preserved : goal.loop-end-preserved
loop-end-preserved g c =
    let i = c.loop-end.invariant in
    let asked = c.in_ok-reply.ensures in
    let request = c.in-Ask.request in
    let reply = c.in_ok-reply.reply in
    let entry : Entry = record { request = request; reply = reply } in
    let due : IsDue (course_of c.loop-end.play) request = rw c.in-Ask.is at c.in_ok-end.ensures.exact in
    let limit : IsLimited request = rw c.in-Ask.is at c.in_ok-end.ensures.limited in
    let taken : course_of c.take.new.self ≡ after (course_of c.loop-end.play) reply = c.in_ok-take.ensures.ok in
    let fit : fits request reply ≡ true = asked.fit in
    let given : g.R.Runner.gave c.args.hand.now (last_of 0 (g.R.Runner.begun c.args.hand.now)) c.loop-end.entries request reply =
    (i.stays.gave _ _ _ _).0 (rw (sym c.as_slice.ensures) (rw (sym i.stays.begun) asked.given)) in
    let room : c.loop-end.kept + capped (own_bytes request) ≤ MAX_KEPT =
    omega (arith, c.if-kept-own_bytes-gt-MAX_KEPT.false, c.own_bytes.ensures) in
    let later : c.min-kept.result ≡ capped (c.loop-end.kept + capped (own_bytes request) + capped (reply_bytes reply)) =
    omega (arith, c.min-kept.ensures, c.own_bytes-in-loop-end.ensures, c.reply_bytes.ensures) in
    record {
      most = omega (arith, c.min-kept.ensures);
      stays = stays_on g.R.Runner _ _ _ i.stays asked.begun asked.room asked.gave asked.ready asked.later;
      answered = rw c.in_ok-push.ensures.ok (answered_on g.R.Runner _ _ _ _ _ _ entry i.answered i.played.whole limit
          asked.counted asked.later (λ e. asked.cause (ap Ok e)) (λ differ. asked.calm differ));
      played = rw c.in_ok-push.ensures.ok (rw taken (played_on _ _ _ _ _ _ _ _ entry _ i.played due fit room given later));
    }
