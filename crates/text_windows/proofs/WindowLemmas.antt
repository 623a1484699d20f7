-- A needle of which a window isn't marked stands nowhere.
use Rattle.std.proofs.Common.{◌≡◌, ℕ, ◌+◌, ◌-◌, ◌/◌, ◌<◌, ◌≤◌, ⊎_elim, Bool, false, List, length, max, take, drop, get_or, sym, ap, ◌∙◌, arith}
use Rattle.std.proofs.lemmas.Bool.{cases_lt}
use Rattle.std.proofs.lemmas.Grind.{get_or_default_zero}
use Rattle.std.proofs.lemmas.List.{get_or-take, get_or-drop}
use Rattle.std.specs.Prelude.{slice_index_or}
use Rattle.tt_base.specs.Occurrence.{StandsNowhere}
use Rattle.text_windows.specs.Windows.{ArePlaces, Covers, slot, slot_at}

-- what stands in a text is read there
read : (text needle : List ℕ) (at k j : ℕ) → k + j < length needle → take (length needle) (drop at text) ≡ needle
    → get_or needle (k + j) 0 ≡ get_or text (at + k + j) 0
read text needle at k j less same =
    ap (λ bytes. get_or bytes (k + j) 0) (sym same) ∙ get_or-take (length needle) (drop at text) (k + j) 0 less
    ∙ get_or-drop at text (k + j) 0
    ∙ ap (λ n. get_or text n 0) (omega arith)

same_slot : (text needle : List ℕ) (at k : ℕ) → k + 4 ≤ length needle → take (length needle) (drop at text) ≡ needle
    → slot_at needle k ≡ slot_at text (at + k)
unfolding slot_at
same_slot text needle at k less same =
    let first = ap (λ bytes. get_or bytes k 0) (sym same) ∙ get_or-take (length needle) (drop at text) k 0 (omega arith)
    ∙ get_or-drop at text k 0 in
    let second = read text needle at k 1 (omega arith) same in
    let third = read text needle at k 2 (omega arith) same in
    let fourth = read text needle at k 3 (omega arith) same in
    (λ n. slot (first n) (second n) (third n) (fourth n))

pub lacking : (marked : List Bool) (needle : List ℕ) (k : ℕ) → k + 4 ≤ length needle
    → slice_index_or marked (slot_at needle k) false ≡ false → (text : List ℕ) → Covers marked text
    → StandsNowhere text needle (length text) 0 (length text + 1)
lacking marked needle k less unmarked text covers at _ _ there =
    let slots = same_slot text needle at k less there.1 in
    let is_marked = covers (at + k) (omega (arith, there.0, less)) in
    grind (arith, slots, is_marked, unmarked)

-- a needle begins so much before a place as the window that was kept there stands in it
pub begins_later : (places : List ℕ) (needle : List ℕ) (k earliest later : ℕ) → k + 4 ≤ length needle
    → later ≡ max earliest (slice_index_or places (slot_at needle k / 4) 0 - k) → (text : List ℕ) → ArePlaces places text
    → StandsNowhere text needle (length text) 0 earliest → StandsNowhere text needle (length text) 0 later
begins_later places needle k earliest later less is text are before at _ low there =
    let slots = same_slot text needle at k less there.1 in
    let kept = are (at + k) (omega (arith, there.0, less)) in
    let place : slice_index_or places (slot_at needle k / 4) 0 ≡ slice_index_or places (slot_at text (at + k) / 4) 0 =
    ap (λ s. slice_index_or places (s / 4) 0) slots in
    ⊎_elim (λ (soon : at < earliest). before at (omega arith) soon there)
    (λ (late : earliest ≤ at). absurd (omega (arith, is, late, low, kept, place))) (cases_lt at earliest)

pub placed : (places : List ℕ) (slot found place at earliest later : ℕ) → length places ≡ 65536 → found ≡ slot → found < 262144
    → place ≡ get_or places (found / 4) place → later ≡ max earliest (place - at)
    → later ≡ max earliest (slice_index_or places (slot / 4) 0 - at)
placed places slot found place at earliest later count same low is later_is =
    let inside : found / 4 < length places = omega (arith, count, low) in
    later_is ∙ ap (λ p. max earliest (p - at)) (is ∙ get_or_default_zero places (found / 4) place inside
    ∙ ap (λ s. get_or places (s / 4) 0) same)
