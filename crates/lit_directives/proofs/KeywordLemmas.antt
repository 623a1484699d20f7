-- The mark of a line, offset by offset.
-- Shown: the value that is computed from the first offset on, and that it stands at the least offset with a keyword.
-- By the loop's steps; the hard one is `none_so_far`, where an offset without a keyword is left behind.
use Rattle.std.proofs.Common.{◌≡◌, ℕ, ◌+◌, ◌-◌, ◌<◌, ◌≤◌, Bool, true, false, List, ◌∷◌, Option, Some, None, cond, length, get_or, take, drop, take_all, drop-cons, add-one, length-drop, refl, sym, ap, subst, ◌∙◌, arith}
use borrow.Author.Count.{below_more}
use Rattle.std.proofs.lemmas.List.{drop_all}
use Rattle.std.specs.Option.{option_map, option_or}
use Rattle.lit_directives.specs.Keyword.{IsMark, NoneStandsBefore, Stands, is_behind_word, is_word, keyword_of, mark_at, mark_from}
use Rattle.lit_directives.specs.declared.keyword.Keyword.{Keyword}
use Rattle.lit_directives.specs.declared.keyword.Mark.{Mark}

pub rest_of : (text : List ℕ) (at : ℕ) → take (length text - at) (drop at text) ≡ drop at text
rest_of text at = take_all (length text - at) (drop at text) (omega (arith, length-drop at text))

-- ---- the value

mark_from-drop : (behind : Bool) (line : List ℕ) (at : ℕ) → at < length line
    → mark_from behind at (drop at line)
    ≡ option_or (mark_at behind at (drop at line)) (mark_from (is_word (get_or line at 0)) (at + 1) (drop (at + 1) line))
unfolding mark_from
mark_from-drop behind line at within =
    let opened : drop at line ≡ get_or line at 0 ∷ drop (at + 1) line =
    drop-cons line at 0 within ∙ ap (λ n. get_or line at 0 ∷ drop n line) (sym (add-one at)) in
    ap (mark_from behind at) opened
    ∙ ap (λ l. option_or (mark_at behind at l) (mark_from (is_word (get_or line at 0)) (at + 1) (drop (at + 1) line)))
    (sym opened)

-- a keyword at an offset
pub marked_here : (behind : Bool) (line : List ℕ) (at : ℕ) (mark : Mark) → at < length line
    → mark_at behind at (drop at line) ≡ Some mark → mark_from behind at (drop at line) ≡ Some mark
marked_here behind line at mark within here =
    mark_from-drop behind line at within
    ∙ ap (λ o. option_or o (mark_from (is_word (get_or line at 0)) (at + 1) (drop (at + 1) line))) here

-- none there
pub marked_later : (behind : Bool) (line : List ℕ) (at : ℕ) → at < length line
    → mark_at behind at (drop at line) ≡ None
    → mark_from behind at (drop at line) ≡ mark_from (is_word (get_or line at 0)) (at + 1) (drop (at + 1) line)
marked_later behind line at within here =
    mark_from-drop behind line at within
    ∙ ap (λ o. option_or o (mark_from (is_word (get_or line at 0)) (at + 1) (drop (at + 1) line))) here

pub marked_never : (behind : Bool) (line : List ℕ) (at : ℕ) → length line ≤ at
    → mark_from behind at (drop at line) ≡ None
unfolding mark_from
marked_never behind line at ends = ap (mark_from behind at) (drop_all at line ends)

-- ---- the least offset with a keyword

mark_parts : (behind : Bool) (at : ℕ) (keyword : Option Keyword) (mark : Mark)
    → cond behind None (option_map (λ k. record { at = at; keyword = k }) keyword) ≡ Some mark
    → (behind ≡ false) × (keyword ≡ Some mark.keyword) × (mark.at ≡ at)
mark_parts true at keyword mark is = cc
mark_parts false at None mark is = cc
mark_parts false at (Some keyword) mark is = (refl, cc, cc)

module _ (line : List ℕ) (behind : Bool) (at : ℕ) (within : at < length line) (is_behind : behind ≡ is_behind_word line at)
    (none_before : NoneStandsBefore line at) where
  pub least_here : (mark : Mark) → mark_at behind at (drop at line) ≡ Some mark → IsMark line (Some mark)
  least_here mark here =
      let parts = mark_parts behind at (keyword_of (drop at line)) mark here in
      let stands : Stands line at mark.keyword =
      record { within = within; apart = sym is_behind ∙ parts.0; begins = parts.1 } in (
        subst (λ k. Stands line k mark.keyword) (sym parts.2) stands,
        subst (NoneStandsBefore line) (sym parts.2) none_before,
      )

  none_here : mark_at behind at (drop at line) ≡ None → (keyword : Keyword) → Stands line at keyword → ⊥
  none_here none keyword stands =
      let found : mark_at behind at (drop at line) ≡ Some (record { at = at; keyword = keyword }) =
      ap (λ b. mark_at b at (drop at line)) (is_behind ∙ stands.apart)
      ∙ ap (option_map (λ (k : Keyword). record { at = at; keyword = k })) stands.begins in
      cc

  pub none_so_far : mark_at behind at (drop at line) ≡ None → NoneStandsBefore line (at + 1)
  none_so_far none =
      λ k keyword below. below_more (λ k. (keyword : Keyword) → Stands line k keyword → ⊥) at
      (λ k low keyword. none_before k keyword low) (none_here none) k below keyword

-- a byte is behind the one before it
pub behind_next : (line : List ℕ) (at : ℕ) → is_word (get_or line at 0) ≡ is_behind_word line (at + 1)
behind_next line at = sym (ap (is_behind_word line) (add-one at))
