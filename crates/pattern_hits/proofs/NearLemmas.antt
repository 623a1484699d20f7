-- Bytes that are looked for near the front, and then further on.
use Rattle.std.proofs.Common.{◌≡◌, ℕ, ◌+◌, ◌<◌, ◌≤◌, true, false, Option, None, Some, List, length, get_or, take, drop, sym, ◌∙◌, ap, subst, arith, ⊎_elim, length-drop}
use Rattle.std.proofs.lemmas.Bool.{cases_lt}
use Rattle.std.proofs.lemmas.List.{get_or-take}
use Rattle.std.specs.Cmp.Lexicographic.{same_text, other_text}
use Rattle.tt_base.specs.Occurrence.{IsFirstIn, StandsAt, StandsNowhere, begins_with}

-- texts whose first bytes differ
pub other_first : (rest needle : List ℕ) → 0 < length rest → 0 < length needle → (get_or rest 0 0 ≡ get_or needle 0 0 → ⊥)
    → take (length needle) rest ≡ needle → ⊥
other_first rest needle more some differ same =
    differ (sym (get_or-take (length needle) rest 0 0 some) ∙ ap (λ l. get_or l 0 0) same)

module _ (s needle : List ℕ) (at : ℕ) where
  pub begins_there : at ≤ length s → length needle ≤ length (drop at s) → begins_with (drop at s) needle ≡ true
      → StandsAt s needle (length s) at
  begins_there low fits begins = (
    omega (arith, fits, length-drop at s),
    sym (same_text needle (take (length needle) (drop at s)) (sym begins)),
  )

  pub begins_not : begins_with (drop at s) needle ≡ false → StandsAt s needle (length s) at → ⊥
  begins_not not_begins stands =
      other_text needle (take (length needle) (drop at s)) (sym not_begins) (sym stands.1)

  -- no place before the next one
  pub nowhere_on : StandsNowhere s needle (length s) 0 at → (StandsAt s needle (length s) at → ⊥)
      → StandsNowhere s needle (length s) 0 (at + 1)
  nowhere_on before not_here = λ k low high stands.
      ⊎_elim (λ (less : k < at). before k low less stands)
      (λ (high' : at ≤ k). not_here (subst (StandsAt s needle (length s)) (omega arith) stands)) (cases_lt k at)

  -- what is first from a place on, and stands nowhere before, is first
  pub first_of_all : (found : Option ℕ) → StandsNowhere s needle (length s) 0 at → IsFirstIn s needle at (length s) found
      → IsFirstIn s needle 0 (length s) found
  first_of_all None before first = λ k low high stands.
      ⊎_elim (λ (less : k < at). before k low less stands) (λ (later : at ≤ k). first k later high stands) (cases_lt k at)
  first_of_all (Some i) before first = (
    omega arith,
    first.1,
    λ k low high stands.
        ⊎_elim (λ (less : k < at). before k low less stands) (λ (later : at ≤ k). first.2 k later high stands) (cases_lt k at),
  )
