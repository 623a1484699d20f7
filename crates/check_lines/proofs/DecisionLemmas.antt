-- The decision of a line, offset by offset.
-- Shown: the value that is computed from the first offset on, and that it stands at the least offset that decides.
-- By the loop's steps; the hard one is `none_so_far`, where an offset that doesn't decide is left behind.
use Rattle.std.proofs.Common.{◌≡◌, ℕ, ◌+◌, ◌<◌, ◌≤◌, Bool, true, false, List, ◌∷◌, Option, None, Some, cond, length, get_or, drop, refl, sym, ◌∙◌, ap, subst, drop-cons, add-one, length-drop, ◌-◌, arith}
use borrow.Author.Count.{below_more}
use Rattle.std.proofs.lemmas.List.{drop_all}
use Rattle.std.specs.Option.{option_map, option_or}
use Rattle.check_lines.specs.declared.decision.Decision.{Decision}
use Rattle.check_lines.specs.declared.decision.LineMark.{LineMark}
use Rattle.check_lines.specs.Decision.{Decides, IsDecision, MarkLies, NoneDecidesBefore, decide_from, decided_at, is_behind_word, is_word, mark_at}
use Rattle.check_lines.specs.declared.decision.LineMark.TheVariants.{Comment, Check}
use Rattle.check_lines.specs.declared.suffix.Spelling.TheVariants.{Good, Bad}

module _ (checks comments : List (List ℕ)) where
  pub decide_from-drop : (behind : Bool) (line : List ℕ) (at : ℕ) → at < length line
      → decide_from checks comments behind at (drop at line)
      ≡ option_or (decided_at checks comments behind at (drop at line))
      (decide_from checks comments (is_word (get_or line at 0)) (at + 1) (drop (at + 1) line))
  unfolding decide_from
  decide_from-drop behind line at within =
      let opened : drop at line ≡ get_or line at 0 ∷ drop (at + 1) line =
      drop-cons line at 0 within ∙ ap (λ n. get_or line at 0 ∷ drop n line) (sym (add-one at)) in
      ap (decide_from checks comments behind at) opened
      ∙ ap (λ l. option_or (decided_at checks comments behind at l)
      (decide_from checks comments (is_word (get_or line at 0)) (at + 1) (drop (at + 1) line))) (sym opened)

  -- what is decided at an offset is the decision
  pub decided_here : (behind : Bool) (line : List ℕ) (at : ℕ) (found : Decision) → at < length line
      → decided_at checks comments behind at (drop at line) ≡ Some found → decide_from checks comments behind at (drop at line) ≡ Some found
  decided_here behind line at found within here =
      decide_from-drop behind line at within
      ∙ ap (λ o. option_or o (decide_from checks comments (is_word (get_or line at 0)) (at + 1) (drop (at + 1) line))) here

  -- where nothing is decided at an offset the rest decides
  pub decided_later : (behind : Bool) (line : List ℕ) (at : ℕ) → at < length line
      → decided_at checks comments behind at (drop at line) ≡ None
      → decide_from checks comments behind at (drop at line)
      ≡ decide_from checks comments (is_word (get_or line at 0)) (at + 1) (drop (at + 1) line)
  decided_later behind line at within here =
      decide_from-drop behind line at within
      ∙ ap (λ o. option_or o (decide_from checks comments (is_word (get_or line at 0)) (at + 1) (drop (at + 1) line))) here

  pub decided_never : (behind : Bool) (line : List ℕ) (at : ℕ) → length line ≤ at
      → decide_from checks comments behind at (drop at line) ≡ None
  unfolding decide_from
  decided_never behind line at ends = ap (decide_from checks comments behind at) (drop_all at line ends)

  -- ---- the least offset that decides

  -- what is decided at an offset stands there
  decided_parts : (behind : Bool) (at : ℕ) (mark : Option LineMark) (found : Decision)
      → cond behind None (option_map (λ m. record { at = at; mark = m }) mark) ≡ Some found
      → (behind ≡ false) × (mark ≡ Some found.mark) × (found.at ≡ at)
  decided_parts true at mark found is = cc
  decided_parts false at None found is = cc
  decided_parts false at (Some mark) found is = (refl, cc, cc)

  module _ (line : List ℕ) (behind : Bool) (at : ℕ) (within : at < length line) (is_behind : behind ≡ is_behind_word line at)
      (none_before : NoneDecidesBefore checks comments line at) where
    pub least_here : (found : Decision) → decided_at checks comments behind at (drop at line) ≡ Some found → IsDecision checks comments line (Some found)
    least_here found here =
        let parts = decided_parts behind at (mark_at checks comments (drop at line)) found here in
        let stands : Decides checks comments line at found.mark =
        record { within = within; apart = sym is_behind ∙ parts.0; stands = parts.1 } in (
          subst (λ k. Decides checks comments line k found.mark) (sym parts.2) stands,
          subst (NoneDecidesBefore checks comments line) (sym parts.2) none_before,
        )

    none_here : decided_at checks comments behind at (drop at line) ≡ None → (mark : LineMark) → Decides checks comments line at mark → ⊥
    none_here none mark decides =
        let found : decided_at checks comments behind at (drop at line) ≡ Some (record { at = at; mark = mark }) =
        ap (λ b. decided_at checks comments b at (drop at line)) (is_behind ∙ decides.apart)
        ∙ ap (option_map (λ (m : LineMark). record { at = at; mark = m })) decides.stands in
        cc

    pub none_so_far : decided_at checks comments behind at (drop at line) ≡ None → NoneDecidesBefore checks comments line (at + 1)
    none_so_far none =
        λ k mark below. below_more (λ k. (mark : LineMark) → Decides checks comments line k mark → ⊥) at (λ k low mark. none_before k mark low)
        (none_here none) k below mark

  -- a byte is behind the one before it
  pub behind_next : (line : List ℕ) (at : ℕ) → is_word (get_or line at 0) ≡ is_behind_word line (at + 1)
  behind_next line at = sym (ap (is_behind_word line) (add-one at))

-- what a mark needs of the rest of a line it has in the line
pub mark_lies_from : (count : ℕ) (line rest : List ℕ) (at : ℕ) (mark : LineMark) → rest ≡ drop at line → at < length line
    → MarkLies count rest 0 mark → MarkLies count line at mark
mark_lies_from count line rest at Comment is within lies = within
mark_lies_from count line rest at (Check prefix (Good spelled)) is within lies =
    let long : length rest ≡ length line - at = ap length is ∙ length-drop at line in
    (within, omega (arith, lies.1), lies.2)
mark_lies_from count line rest at (Check prefix (Bad kind)) is within lies =
    let long : length rest ≡ length line - at = ap length is ∙ length-drop at line in
    (within, omega (arith, lies.1), lies.2)
