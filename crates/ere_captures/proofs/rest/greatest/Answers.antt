use Rattle.std.proofs.Common.{◌+◌, Some, List, ℕ, take, sym, ap, ◌∙◌, subst}
use Rattle.std.proofs.lemmas.List.{take_all}
use Rattle.ere_places.specs.Seen.{is_held}
use Rattle.ere_captures.specs.Walk.{IsGreatest}
use Rattle.ere_captures.proofs.GreatestLemmas.{greatest_more, greatest_skip}
use Rattle.ere_captures.proofs.rest.greatest.Goals as goal
use Rattle.ere_captures.proofs.rest.greatest.Goals.{then-has, else-has}

pub loop-place-preserved : goal.loop-place-preserved
loop-place-preserved c =
    let test = is_held c.args.set.now in
    let places = c.args.places.now in
    let i = c.loop-place.place-index in
    elim c.if-has.branch [
      | then-has w ↦
          subst (IsGreatest test (take (i + 1) places)) (sym (w.held-is ∙ ap Some w.greater.ensures))
          (greatest_more test places i c.loop-place.held c.loop-place-test.true (sym c.has.ensures ∙ w.if-has.true)
          c.loop-place.invariant)
      | else-has w ↦
          subst (IsGreatest test (take (i + 1) places)) (sym w.held-is)
          (greatest_skip test places i c.loop-place.held c.loop-place-test.true (sym c.has.ensures ∙ w.if-has.false)
          c.loop-place.invariant)
    ]

pub returns : goal.returns
returns c = subst (λ (xs : List ℕ). IsGreatest (is_held c.args.set.now) xs c.loop-place.held)
    (take_all c.loop-place.place-index c.args.places.now c.loop-place-test.false) c.loop-place.invariant
