-- The least newline behind which a line is empty is that of two newlines, or else the last byte.
-- Such a newline is one or the other (`either`), so the least of the pairs, where there is one, is the least of all.
-- The hard one is `empty_where`, that at a pair of newlines the line between them is empty.
use Rattle.std.proofs.Common.{◌≡◌, ◌⊎◌, ℕ, suc, ◌+◌, ◌-◌, ◌<◌, ◌≤◌, List, [], ◌∷◌, None, Some, length, get_or, take, drop, sym, ◌∙◌, ap, inl, inr, arith, drop-cons, add-one, ⊎_elim}
use Rattle.tt_base.specs.Occurrence.{IsFirstIn, StandsAt}
use Rattle.check_group.specs.Lines.{EndsBeforeEmpty, IsEmptyLine}

opened : (text : List ℕ) (at : ℕ) → at + 2 ≤ length text
    → drop at text ≡ get_or text at 0 ∷ get_or text (at + 1) 0 ∷ drop (at + 2) text
opened text at within =
    let two : suc (at + 1) ≡ at + 2 = omega arith in
    drop-cons text at 0 (omega (arith, within)) ∙ ap (λ n. get_or text at 0 ∷ drop n text) (sym (add-one at))
    ∙ ap (λ l. get_or text at 0 ∷ l) (drop-cons text (at + 1) 0 (omega (arith, within))
    ∙ ap (λ n. get_or text (at + 1) 0 ∷ drop n text) two)

stands_where : (text : List ℕ) (at : ℕ) → at + 2 ≤ length text → get_or text at 0 ≡ 10 → get_or text (at + 1) 0 ≡ 10
    → StandsAt text (10 ∷ 10 ∷ []) (length text) at
stands_where text at within one two = (
  within,
  ap (take 2) (opened text at within) ∙ ap (λ a. a ∷ get_or text (at + 1) 0 ∷ []) one ∙ ap (λ b. 10 ∷ b ∷ []) two,
)

empty_where : (text : List ℕ) (at : ℕ) → StandsAt text (10 ∷ 10 ∷ []) (length text) at → EndsBeforeEmpty text at
empty_where text at stands =
    let within : at + 2 ≤ length text = stands.0 in
    let both : get_or text at 0 ∷ get_or text (at + 1) 0 ∷ [] ≡ 10 ∷ 10 ∷ [] =
    sym (ap (take 2) (opened text at within)) ∙ stands.1 in
    record { within = omega (arith, within); newline = cc; empty = inr (omega (arith, within), cc) }

-- a newline before an empty line is the first of two, or the last byte
either : (text : List ℕ) (at : ℕ) → EndsBeforeEmpty text at
    → StandsAt text (10 ∷ 10 ∷ []) (length text) at ⊎ (at + 1 ≡ length text)
either text at ends =
    ⊎_elim (λ (last : at + 1 ≡ length text). inr last)
    (λ (next : (at + 1 < length text) × (get_or text (at + 1) 0 ≡ 10)).
    inl (stands_where text at (omega (arith, next.0)) ends.newline next.1)) ends.empty

pub least_pair : (text : List ℕ) (from at : ℕ) → IsFirstIn text (10 ∷ 10 ∷ []) from (length text) (Some at)
    → IsEmptyLine text from (Some at)
least_pair text from at first = (
  first.0,
  empty_where text at first.1,
  λ k low below ends. ⊎_elim (λ stands. first.2 k low below stands)
      (λ (last : k + 1 ≡ length text). absurd (omega (arith, last, below, first.1.0))) (either text k ends),
)

last_ends : (text : List ℕ) (from : ℕ) → from < length text → get_or text (length text - 1) 0 ≡ 10
    → EndsBeforeEmpty text (length text - 1)
last_ends text from some newline =
    record { within = omega (arith, some); newline = newline; empty = inl (omega (arith, some)) }

pub least_last : (text : List ℕ) (from : ℕ) → IsFirstIn text (10 ∷ 10 ∷ []) from (length text) None → from < length text
    → get_or text (length text - 1) 0 ≡ 10 → IsEmptyLine text from (Some (length text - 1))
least_last text from none some newline = (
  omega (arith, some),
  last_ends text from some newline,
  λ k low below ends. ⊎_elim (λ stands. none k low (omega (arith, below)) stands)
      (λ (last : k + 1 ≡ length text). absurd (omega (arith, last, below))) (either text k ends),
)

pub least_none : (text : List ℕ) (from : ℕ) → IsFirstIn text (10 ∷ 10 ∷ []) from (length text) None
    → (from < length text → get_or text (length text - 1) 0 ≡ 10 → ⊥) → IsEmptyLine text from None
least_none text from none other =
    λ k low ends. ⊎_elim (λ stands. none k low (omega (arith, ends.within)) stands)
    (λ (last : k + 1 ≡ length text).
    let there : k ≡ length text - 1 = omega (arith, last) in
    other (omega (arith, last, low)) (ap (λ n. get_or text n 0) (sym there) ∙ ends.newline)) (either text k ends)
