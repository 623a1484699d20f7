use Rattle.std.proofs.Common.{get_or, refl, sym, ◌∙◌, subst, inl, inr, arith}
use Rattle.ere_tree.proofs.CapturesLemmas.{some_same}
use Rattle.ere_reach.proofs.EndingLemmas.{IsGreatestOf, greatest_of, greatest_same, greatest_more}
use Rattle.ere_reach.proofs.KeepsLemmas.{of_state, state_of}
use Rattle.ere_reach.proofs.TakenLemmas.{taken_in_none, taken_in_more, taken_in_all}
use Rattle.ere_reach.proofs.ending.greatest_place.Goals as goal
use Rattle.ere_reach.proofs.ending.greatest_place.Goals.{in-Some, in_default, in_default-via-in-Some+else-old-place, in_default-via-in_default}

pub loop-place-init : goal.loop-place-init
loop-place-init c = λ held. greatest_same _ _ _
    (taken_in_none c.deref-row-items.result.now c.loop-row.row-index held c.deref-place-items.result.now)
    c.loop-row.invariant

pub loop-place-preserved : goal.loop-place-preserved
loop-place-preserved c = λ held.
    let place = get_or c.deref-place-items.result.now c.loop-place.place-index 0 in
    let grows = taken_in_more c.deref-row-items.result.now c.loop-row.row-index held c.deref-place-items.result.now
    c.loop-place.place-index place c.loop-place-test.true refl in
    elim c.match-greatest.branch [
      | in-Some w ↦
          subst (IsGreatestOf _) (sym w.greatest-is) (greatest_more _ _ held place w.in-Some.old c.loop-place.greatest
          grows (inl w.in-Some.is) (omega (arith, w.if-old-place.true))
          (λ m is. omega (arith, some_same m w.in-Some.old (sym is ∙ w.in-Some.is))) (c.loop-place.invariant held))
      | in_default w ↦
          subst (IsGreatestOf _) (sym w.greatest-is) (greatest_more _ _ held place place c.loop-place.greatest
          grows (inr refl) (omega arith) (λ m is. elim w.in_default.branch [
            | in_default-via-in-Some+else-old-place x ↦
                omega (arith, x.if-old-place.false, some_same m x.in-Some.old (sym is ∙ x.in-Some.is))
            | in_default-via-in_default x ↦ absurd (x.in_default.not-Some m is)
          ]) (c.loop-place.invariant held))
    ]

pub loop-row-preserved : goal.loop-row-preserved
loop-row-preserved c = greatest_same _ _ _
    (taken_in_all c.deref-row-items.result.now c.loop-row.row-index c.row-item.result c.deref-place-items.result.now
    c.loop-place.place-index c.loop-row-test.true c.row-item.is c.deref-place-items.ensures.value c.loop-place-test.false)
    (c.loop-place.invariant c.row-item.result.held.items)

pub returns : goal.returns
returns c =
    let from = c.args.rows.now in
    let past = c.loop-row-test.false in
    let same = c.deref-row-items.ensures.value in
    greatest_of from c.loop-row.greatest (greatest_same _ _ _ (λ h p. (
      state_of from c.deref-row-items.result.now c.loop-row.row-index same past h p,
      of_state from c.deref-row-items.result.now c.loop-row.row-index same past h p,
    )) c.loop-row.invariant)
