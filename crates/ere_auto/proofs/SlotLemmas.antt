-- A set that has all numbers below a bound has that many members.
use Rattle.std.proofs.Common.{◌≡◌, ℕ, ◌+◌, ◌<◌, ◌≤◌, ◌⊎◌, Bool, true, false, List, [], ◌∷◌, zero, suc, length, ap, ◌∙◌, inl, inr, arith, cond, slice_index_or}
use Rattle.std.specs.Bool.{MatchBool}
use Rattle.std.proofs.Math.ListN.{set}
use Rattle.std.proofs.lemmas.List.{get_or-set_same, get_or-set_other}
use Rattle.std.proofs.lemmas.List.Sums.{sum_by-cons}
use Rattle.std.proofs.lemmas.Bool.{cases_eq}
use Rattle.ere_auto.specs.Marks.{members}

pub all_members : (flags : List Bool) (n : ℕ) → n ≤ length flags
    → ((k : ℕ) → k < n → slice_index_or flags k false ≡ true) → n ≤ members flags
unfolding members
all_members flags zero l h = omega arith
all_members [] (suc n) l h = absurd (omega (arith, l))
all_members (b ∷ flags) (suc n) l h =
    let first : b ≡ true = h 0 (omega arith) in
    let one : ℕ = 1 in
    let counted : cond b one 0 ≡ one = ap (λ x. cond x one 0) first in
    let more : members (b ∷ flags) ≡ cond b one 0 + members flags =
    sum_by-cons (λ x. cond x one 0) b flags in
    omega (arith, all_members flags n (omega (arith, l)) (λ k m. h (suc k) (omega (arith, m))), counted, more)

pub marked_more : (flags : List Bool) (q k : ℕ) → q < length flags
    → (slice_index_or flags k false ≡ true) ⊎ (k ≡ q) → slice_index_or (set flags q true) k false ≡ true
marked_more flags q k l had =
    elim (cases_eq k q) [
      | inl same ↦ ap (λ x. slice_index_or (set flags q true) x false) same ∙ get_or-set_same flags q true false l
      | inr other ↦
          get_or-set_other flags q k true false other ∙ elim had [ inl old ↦ old | inr new ↦ absurd (other new) ]
    ]

pub members_few : (flags new : List Bool) (fresh : Bool) (n : ℕ)
    → MatchBool fresh (members new ≡ members flags + 1) (new ≡ flags) → members flags ≤ n → members new ≤ n + 1
members_few flags new true n c h = omega (arith, c, h)
members_few flags new false n c h = omega (arith, ap members c, h)
