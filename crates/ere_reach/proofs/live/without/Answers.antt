use Rattle.std.proofs.Common.{ℕ, ◌+◌, List, Vec, Global, take, sym, ap, ◌∙◌, subst}
use Rattle.std.proofs.lemmas.List.{take_all}
use Rattle.ere_reach.proofs.LiveLemmas.{AreOthers, others_push, others_skip}
use Rattle.ere_reach.proofs.live.without.Goals as goal
use Rattle.ere_reach.proofs.live.without.Goals.{then-number-own+in_ok-push, else-number-own}

pub loop-number-preserved : goal.loop-number-preserved
loop-number-preserved c =
    let numbers = c.args.numbers.now in
    let own = c.args.own in
    let k = c.loop-number.number-index in
    let old = c.loop-number.others.items in
    elim c.if-number-own.branch [
      | then-number-own+in_ok-push w ↦
          subst (AreOthers (take (k + 1) numbers) own)
          (sym (ap (λ (v : Vec ℕ Global). v.items) w.others-is ∙ w.in_ok-push.ensures.items))
          (others_push numbers own k old c.loop-number-test.true w.if-number-own.true c.loop-number.invariant)
      | else-number-own w ↦
          subst (AreOthers (take (k + 1) numbers) own) (sym (ap (λ (v : Vec ℕ Global). v.items) w.others-is))
          (others_skip numbers own k old c.loop-number-test.true w.if-number-own.false c.loop-number.invariant)
    ]

pub returns : goal.returns
returns c =
    subst (λ (xs : List ℕ). AreOthers xs c.args.own c.loop-number.others.items)
    (take_all c.loop-number.number-index c.args.numbers.now c.loop-number-test.false) c.loop-number.invariant
