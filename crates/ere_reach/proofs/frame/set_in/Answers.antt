use Rattle.std.proofs.Common.{ℕ, ◌+◌, List, Vec, Global, take, sym, ap, ◌∙◌, subst}
use Rattle.std.proofs.lemmas.List.{take_all}
use Rattle.ere_tree.specs.View.{view}
use Rattle.ere_reach.specs.Memo.{HasSetIn}
use Rattle.ere_reach.proofs.FrameLemmas.{set_push, set_skip}
use Rattle.ere_reach.proofs.frame.set_in.Goals as goal
use Rattle.ere_reach.proofs.frame.set_in.Goals.{then-sets_one+in_ok-push, else-sets_one}

pub loop-number-preserved : goal.loop-number-preserved
loop-number-preserved c =
    let t = view c.args.ere.now in
    let numbers = c.args.numbers.now in
    let k = c.loop-number.number-index in
    let old = c.loop-number.own.items in
    elim c.if-sets_one.branch [
      | then-sets_one+in_ok-push w ↦
          subst (HasSetIn t (take (k + 1) numbers))
          (sym (ap (λ (v : Vec ℕ Global). v.items) w.own-is ∙ w.in_ok-push.ensures.items))
          (set_push t numbers old k c.loop-number-test.true c.loop-number.invariant)
      | else-sets_one w ↦
          subst (HasSetIn t (take (k + 1) numbers)) (sym (ap (λ (v : Vec ℕ Global). v.items) w.own-is))
          (set_skip t numbers old k c.loop-number-test.true (sym c.sets_one.ensures ∙ w.if-sets_one.false)
          c.loop-number.invariant)
    ]

pub returns : goal.returns
returns c =
    subst (λ (xs : List ℕ). HasSetIn (view c.args.ere.now) xs c.loop-number.own.items)
    (take_all c.loop-number.number-index c.args.numbers.now c.loop-number-test.false) c.loop-number.invariant
