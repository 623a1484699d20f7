-- The lines of a text, and its first one.
use Rattle.std.proofs.Common.{◌≡◌, ℕ, zero, suc, ◌<◌, Bool, true, false, List, [], ◌∷◌, length, get_or, take, drop, refl, ap, ◌∙◌, arith}
use Rattle.std.proofs.lemmas.List.Splits.{length-slice_split, slice_split-cons_yes, slice_split-cons_no}
use Rattle.std.specs.List.{onto_first, slice_split}
use Rattle.tt_base.specs.Place.{is_newline}

-- between newlines there is a line
pub some_lines : (text : List ℕ) → 0 < length (slice_split is_newline text)
some_lines text = omega (arith, length-slice_split is_newline text)

unset : (x : Bool) → (x ≡ true → ⊥) → x ≡ false
unset true refuted = absurd (refuted refl)
unset false refuted = refl

-- the first one ends before the first newline
pub split_first : (text : List ℕ) (at : ℕ) → at < length text
    → ((k : ℕ) → k < at → is_newline (get_or text k 0) ≡ true → ⊥) → is_newline (get_or text at 0) ≡ true
    → slice_split is_newline text ≡ take at text ∷ slice_split is_newline (drop (suc at) text)
split_first [] at within none here = absurd (omega (arith, within))
split_first (b ∷ text) zero within none here = slice_split-cons_yes is_newline b text here
split_first (b ∷ text) (suc at) within none here =
    slice_split-cons_no is_newline b text (unset (is_newline b) (none 0 (omega arith)))
    ∙ ap (onto_first b) (split_first text at (omega (arith, within)) (λ k low. none (suc k) (omega (arith, low))) here)

-- or it is all
pub split_none : (text : List ℕ) → ((k : ℕ) → k < length text → is_newline (get_or text k 0) ≡ true → ⊥)
    → slice_split is_newline text ≡ text ∷ []
split_none [] none = refl
split_none (b ∷ text) none =
    slice_split-cons_no is_newline b text (unset (is_newline b) (none 0 (omega arith)))
    ∙ ap (onto_first b) (split_none text (λ k low. none (suc k) (omega (arith, low))))
