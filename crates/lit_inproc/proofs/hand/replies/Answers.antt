use Rattle.std.proofs.Common.{rules, ◌≡◌, ◌+◌, ◌∙◌, Ok, [], ◌∷◌, ◌++◌, ap, arith, refl, sym, take}
use Rattle.std.proofs.lemmas.List.{take_more}
use Rattle.tt_outside.specs.Gave.{last_of}
use Rattle.test_course.proofs.PlayedLemmas.{SameGave-trans}
use Rattle.lit_inproc.proofs.HandLemmas.{more_behind, rose_at, rose_behind}
use Rattle.lit_inproc.proofs.InsideLemmas.{fit_behind, given_behind}
use Rattle.lit_inproc.proofs.hand.replies.Goals as goal

pub loop-request-preserved : goal.loop-request-preserved
loop-request-preserved g c =
    let i = c.loop-request.invariant in
    let asked = c.in_ok-reply.ensures in
    let index = c.loop-request.request-index in
    let request = c.request-item.result in
    let reply = c.in_ok-reply.reply in
    let one_more : take (index + 1) c.args.asked.now ≡ take index c.args.asked.now ++ request ∷ [] = search (rules, take_more) in
    let given : g.H.Runner.gave c.args.hand.now (last_of 0 (g.H.Runner.begun c.args.hand.now)) c.args.earlier.now request reply =
    (i.gave _ _ _ _).0 (rw (sym i.begun) asked.given) in
    rw c.in_ok-push.ensures.ok record {
      given = rw one_more (given_behind _ _ _ _ _ i.given given);
      fit = rw one_more (fit_behind _ _ _ _ i.fit asked.fit);
      counted = more_behind (g.H.Runner.asked c.args.hand.now) _ _ index (index + 1) i.counted asked.counted refl;
      later = omega (arith, i.later, asked.later);
      rose = rose_behind c.loop-request.replies reply _ _ _ i.rose (rose_at _ _ reply (λ e. asked.cause (ap Ok e)) asked.calm) i.later asked.later;
      begun = asked.begun ∙ i.begun;
      room = asked.room ∙ i.room;
      gave = SameGave-trans _ _ _ asked.gave i.gave;
      ready = asked.ready;
    }
