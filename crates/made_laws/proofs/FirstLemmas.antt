-- The value that looks for a needle is where it first stands.
-- Shown: from the front of a slice on, the value tells the first place. By induction over the slice: what stands at its front is first, and what
-- doesn't is first behind it. The hard one is `stands_if`, where a test of bytes tells of places. Its home is beside `first_from_is`.
use Rattle.std.proofs.Common.{◌≡◌, ◌⊎◌, ℕ, suc, ◌+◌, ◌-◌, ◌<◌, ◌≤◌, Bool, true, false, Option, None, Some, List, [], ◌∷◌, length, inl, inr, add-one, refl, cond, drop-cons, ⊎_elim, get_or, take, drop, sym, ◌∙◌, ap, subst, arith}
use Rattle.std.proofs.lemmas.Bool.{cases_lt}
use Rattle.std.proofs.lemmas.List.{length-take, take-take}
use Rattle.std.specs.Cmp.Lexicographic.{same_text, other_text}
use Rattle.tt_base.proofs.OccurrenceLemmas.{length-slice}
use Rattle.tt_base.specs.Occurrence.{StandsAt, IsFirstIn, begins_with, first_from}

module _ (text needle : List ℕ) (to : ℕ) (within : to ≤ length text) where
  stands_if : (from : ℕ) (slice : List ℕ) → from ≤ to → slice ≡ take (to - from) (drop from text)
      → begins_with slice needle ≡ true → StandsAt text needle to from
  stands_if from slice low is begins =
      let same : needle ≡ take (length needle) slice = same_text needle (take (length needle) slice) (sym begins) in
      let fits : length needle ≤ to - from =
      omega (arith, ap length same, length-take (length needle) slice, ap length is, length-slice text needle from to low within) in (
        omega arith,
        sym (take-take (length needle) (to - from) (drop from text) fits) ∙ ap (take (length needle)) (sym is) ∙ sym same,
      )

  stands_not : (from : ℕ) (slice : List ℕ) → from ≤ to → slice ≡ take (to - from) (drop from text)
      → begins_with slice needle ≡ false → StandsAt text needle to from → ⊥
  stands_not from slice low is not_begins stands =
      let fits : length needle ≤ to - from = omega (arith, stands.0) in
      other_text needle (take (length needle) slice) (sym not_begins)
      (sym stands.1 ∙ sym (take-take (length needle) (to - from) (drop from text) fits) ∙ ap (take (length needle)) (sym is))

  later_or_here : (from at : ℕ) → from ≤ at → (from < at) ⊎ (at ≡ from)
  later_or_here from at low =
      ⊎_elim (λ (later : from < at). inl later) (λ (high : at ≤ from). inr (omega arith)) (cases_lt from at)

  here_first : (from : ℕ) → StandsAt text needle to from → IsFirstIn text needle from to (Some from)
  here_first from stands = (omega arith, stands, λ before low high one. absurd (omega arith))

  -- what doesn't stand at an offset stands first where it does behind it
  behind_first : (from : ℕ) (found : Option ℕ) → (StandsAt text needle to from → ⊥) → IsFirstIn text needle (from + 1) to found
      → IsFirstIn text needle from to found
  behind_first from None not_here nowhere = λ at low high stands.
      ⊎_elim (λ (later : from < at). nowhere at (omega arith) high stands)
      (λ (here : at ≡ from). not_here (subst (StandsAt text needle to) here stands)) (later_or_here from at low)
  behind_first from (Some at) not_here first = (
    omega (arith, first.0),
    first.1,
    λ before low high stands. ⊎_elim (λ (later : from < before). first.2 before (omega arith) high stands)
        (λ (here : before ≡ from). not_here (subst (StandsAt text needle to) here stands)) (later_or_here from before low),
  )

  later_slice : (from byte : ℕ) (rest : List ℕ) → from ≤ to → byte ∷ rest ≡ take (to - from) (drop from text)
      → (from < to) × (rest ≡ take (to - (from + 1)) (drop (from + 1) text))
  later_slice from byte rest low is =
      let below : from < to = omega (arith, ap length is, length-slice text needle from to low within) in
      let count : to - from ≡ suc (to - (from + 1)) = omega arith in
      let opened : take (to - from) (drop from text) ≡ get_or text from 0 ∷ take (to - (from + 1)) (drop (from + 1) text) =
      ap (λ n. take n (drop from text)) count
      ∙ ap (take (suc (to - (from + 1))))
      (drop-cons text from 0 (omega arith) ∙ ap (λ n. get_or text from 0 ∷ drop n text) (sym (add-one from))) in
      let both : byte ∷ rest ≡ get_or text from 0 ∷ take (to - (from + 1)) (drop (from + 1) text) = is ∙ opened in
      (below, cc)

  value_end : (from : ℕ) → from ≤ to → [] ≡ take (to - from) (drop from text) → from ≡ to → (test : Bool) → begins_with [] needle ≡ test
      → IsFirstIn text needle from to (cond test (Some from) None)
  value_end from low is ends true begins = here_first from (stands_if from [] low is begins)
  value_end from low is ends false begins = λ at above high stands.
      let here : at ≡ from = omega (arith, above, high, ends) in
      stands_not from [] low is begins (subst (StandsAt text needle to) here stands)

  value_step : (from : ℕ) (slice : List ℕ) (later : Option ℕ) → from ≤ to → slice ≡ take (to - from) (drop from text)
      → IsFirstIn text needle (from + 1) to later → (test : Bool) → begins_with slice needle ≡ test
      → IsFirstIn text needle from to (cond test (Some from) later)
  value_step from slice later low is first true begins = here_first from (stands_if from slice low is begins)
  value_step from slice later low is first false begins = behind_first from later (stands_not from slice low is begins) first

  pub first_is_in : (slice : List ℕ) (from : ℕ) → from ≤ to → slice ≡ take (to - from) (drop from text)
      → IsFirstIn text needle from to (first_from needle from slice)
  unfolding first_from
  first_is_in [] from low is =
      let ends : from ≡ to = omega (arith, ap length is, length-slice text needle from to low within) in
      value_end from low is ends (begins_with [] needle) refl
  first_is_in (byte ∷ rest) from low is =
      let next = later_slice from byte rest low is in
      value_step from (byte ∷ rest) (first_from needle (from + 1) rest) low is
      (first_is_in rest (from + 1) (omega (arith, next.0)) next.1) (begins_with (byte ∷ rest) needle) refl
