use Rattle.std.proofs.Common.{ℕ, ◌≡◌, [], ◌∷◌, ◌++◌, List, sym, subst, inl, inr, arith}
use Rattle.std.proofs.lemmas.Bool.{cases_lt}
use Rattle.std.proofs.lemmas.List.Elements.{All-nil, All-push, Contains-append_left, Contains-push}
use Rattle.std.specs.List.{All, Contains}
use Rattle.ere_places.specs.Places.{IsInside}
use Rattle.ere_match.proofs.line.all_places.Goals as goal

-- the list with a place more
module _ (old new : List ℕ) (place : ℕ) (is : new ≡ old ++ place ∷ []) where
  has_old : (q : ℕ) → Contains old q → Contains new q
  has_old q has = subst (λ xs. Contains xs q) (sym is) (Contains-append_left old (place ∷ []) q has)

  has_new : Contains new place
  has_new = subst (λ xs. Contains xs place) (sym is) (Contains-push old place)

pub loop-place-init : goal.loop-place-init
loop-place-init c = record {
  inside = subst (All (IsInside c.args.window)) (sym c.in_ok-all.ensures.items) (All-nil (IsInside c.args.window));
  each = λ q low high. absurd (omega (arith, low, high));
}

pub loop-place-preserved : goal.loop-place-preserved
loop-place-preserved c = record {
  inside = subst (All (IsInside c.args.window)) (sym c.in_ok-push.ensures.items)
      (All-push (IsInside c.args.window) c.loop-place.all.items c.loop-place.place c.loop-place.invariant.inside
      (omega arith, omega (arith, c.loop-place-test.true)));
  each = λ q low high. elim (cases_lt q c.loop-place.place) [
    | inl before ↦ has_old _ _ c.loop-place.place c.in_ok-push.ensures.items q (c.loop-place.invariant.each q low before)
    | inr here ↦ subst (Contains _) (omega (arith, here, high)) (has_new _ _ c.loop-place.place c.in_ok-push.ensures.items)
  ];
}

pub returns-clause-inside : goal.returns-clause-inside
returns-clause-inside c =
    subst (All (IsInside c.args.window)) (sym c.in_ok-push-2.ensures.items)
    (All-push (IsInside c.args.window) c.loop-place.all.items c.args.window.high c.loop-place.invariant.inside
    (c.requires, omega arith))

pub returns-clause-each : goal.returns-clause-each
returns-clause-each c = λ q lies. elim (cases_lt q c.args.window.high) [
  | inl before ↦ has_old _ _ c.args.window.high c.in_ok-push-2.ensures.items q (c.loop-place.invariant.each q lies.0 (omega (arith, before)))
  | inr here ↦ subst (Contains _) (omega (arith, here, lies.1)) (has_new _ _ c.args.window.high c.in_ok-push-2.ensures.items)
]
