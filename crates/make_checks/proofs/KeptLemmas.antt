-- What is kept of lines, the first before the others.
-- Shown: a text is its first line and what stands behind its newline, and so is its canonical form; so what is kept of it is what is kept of that
-- line, before what is kept of the rest. The hard one is `kept_before`, by what the text is cut into.
use Rattle.std.proofs.Common.{◌≡◌, ℕ, ◌<◌, ◌==◌, Bool, false, Bor, List, [], ◌∷◌, ◌++◌, Option, None, Some, length, refl, sym, ap, ◌∙◌, subst, arith, append_assoc, append-nil, ne_eqb}
use Rattle.std.specs.List.{slice_split}
use Rattle.std.specs.Option.{option_map_or}
use Rattle.file_laws.proofs.PlainLemmas.{IsCutAt, IsPlain, plain_form, split_alone, split_before, split_is}
use Rattle.file_laws.specs.Kept.{ended, free_text, kept_line, kept_of, last_of}
use Rattle.lead_laws.proofs.FormLemmas.{form_by_lines, unreturned_other}
use Rattle.lead_laws.specs.Canon.{form_of, unreturned}
use Rattle.make_checks.proofs.LineLemmas.{some_lines}
use Rattle.make_checks.specs.Made.{lines_behind}
use Rattle.tt_base.specs.Place.{is_newline}

pub some_bytes : (text : List ℕ) (empty : Bool) → empty ≡ (length text == 0) → empty ≡ false → 0 < length text
some_bytes [] empty is refuted = cc
some_bytes (b ∷ text) empty is refuted = omega arith

ended_more : (line : List ℕ) (lines : List (List ℕ)) → 0 < length lines → ended (line ∷ lines) ≡ line ∷ ended lines
ended_more line [] some = absurd (omega (arith, some))
ended_more line (next ∷ lines) some = refl

ended_last : (line : List ℕ) → 0 < length line → last_of line ≡ line ∷ []
ended_last [] some = absurd (omega (arith, some))
ended_last (b ∷ line) some = refl

-- ---- what a text is cut into

-- a text that is cut so is one alone
cut_one : (lines : List (List ℕ)) (text other : List ℕ) → IsCutAt text lines → IsCutAt other lines → text ≡ other
cut_one [] text other cut again = absurd cut
cut_one (line ∷ []) text other cut again = cut.1 ∙ sym again.1
cut_one (line ∷ next ∷ lines) text other cut again =
    cut.2 ∙ ap (λ l. line ++ 10 ∷ l) (cut_one (next ∷ lines) cut.1 again.1 cut.3 again.3) ∙ sym again.2

-- a line before others
first_cut : (text line rest : List ℕ) (lines : List (List ℕ)) → slice_split is_newline rest ≡ lines → 0 < length lines
    → IsCutAt text (line ∷ lines) → IsPlain line × (text ≡ line ++ 10 ∷ rest)
first_cut text line rest [] is some cut = absurd (omega (arith, some))
first_cut text line rest (next ∷ lines) is some cut =
    (cut.0, cut.2 ∙ ap (λ l. line ++ 10 ∷ l) (cut_one (next ∷ lines) cut.1 rest cut.3 (subst (IsCutAt rest) is (split_is rest))))

-- ---- what is kept

module _ (checks comments : List (List ℕ)) where
  abbrev kept_in : List ℕ → List ℕ
  kept_in text = free_text checks comments text (form_of text)

  abbrev line_in : List ℕ → List ℕ
  line_in line = kept_line checks comments line (form_of line)

  abbrev kept_behind : Option (Bor (List ℕ)) → List ℕ
  kept_behind behind = option_map_or (λ rest. kept_in rest.now) behind []

  -- of a text that is one line
  kept_alone : (text line : List ℕ) → 0 < length text → IsPlain line → text ≡ line → slice_split is_newline text ≡ line ∷ []
      → kept_in text ≡ line_in line ++ []
  kept_alone text line some plain is split =
      ap (λ lines. kept_of checks comments (ended lines) (slice_split is_newline (form_of text))) split
      ∙ ap (λ lines. kept_of checks comments lines (slice_split is_newline (form_of text))) (ended_last line (omega (arith, some, ap length is)))
      ∙ ap (λ t. kept_of checks comments (line ∷ []) (slice_split is_newline (form_of t))) is
      ∙ ap (kept_of checks comments (line ∷ [])) (split_alone (form_of line) (plain_form line plain))

  -- of a line before others
  kept_before : (text line rest : List ℕ) → IsPlain line → text ≡ line ++ 10 ∷ rest
      → slice_split is_newline text ≡ line ∷ slice_split is_newline rest → kept_in text ≡ line_in line ++ kept_in rest
  kept_before text line rest plain is split =
      let later = ended (slice_split is_newline rest) in
      ap (λ lines. kept_of checks comments (ended lines) (slice_split is_newline (form_of text))) split
      ∙ ap (λ lines. kept_of checks comments lines (slice_split is_newline (form_of text)))
      (ended_more line (slice_split is_newline rest) (some_lines rest))
      ∙ ap (λ t. kept_of checks comments (line ∷ later) (slice_split is_newline (form_of t))) is
      ∙ ap (λ t. kept_of checks comments (line ∷ later) (slice_split is_newline t)) (form_by_lines line rest)
      ∙ ap (kept_of checks comments (line ∷ later)) (split_before (form_of line) (form_of rest) (plain_form line plain))

  first_kept : (text line : List ℕ) (behind : Option (Bor (List ℕ))) → 0 < length text → slice_split is_newline text ≡ line ∷ lines_behind behind
      → kept_in text ≡ line_in line ++ kept_behind behind
  first_kept text line None some split =
      let cut = subst (IsCutAt text) split (split_is text) in kept_alone text line some cut.0 cut.1 split
  first_kept text line (Some rest) some split =
      let cut = first_cut text line rest.now (slice_split is_newline rest.now) refl (some_lines rest.now)
      (subst (IsCutAt text) split (split_is text)) in
      kept_before text line rest.now cut.0 cut.1 split

  -- what was kept, and what is kept of the first line, before what is left
  pub kept_first : (text whole rest line : List ℕ) (behind : Option (Bor (List ℕ))) → 0 < length rest
      → slice_split is_newline rest ≡ line ∷ lines_behind behind → text ++ kept_in rest ≡ whole → (text ++ line_in line) ++ kept_behind behind ≡ whole
  kept_first text whole rest line behind some split so_far =
      append_assoc text (line_in line) (kept_behind behind) ∙ ap (λ l. text ++ l) (sym (first_kept rest line behind some split)) ∙ so_far

  pub kept_more : (front new whole : List ℕ) (behind : Option (Bor (List ℕ))) (later : Bor (List ℕ)) → front ++ kept_behind behind ≡ whole
      → behind ≡ Some later → new ≡ front → new ++ kept_in later.now ≡ whole
  kept_more front new whole behind later first is new_is =
      ap (λ l. l ++ kept_in later.now) new_is ∙ ap (λ b. front ++ kept_behind b) (sym is) ∙ first

  -- or of the last one
  pub kept_last : (front new whole : List ℕ) (behind : Option (Bor (List ℕ))) → front ++ kept_behind behind ≡ whole → behind ≡ None
      → new ≡ front → new ≡ whole
  kept_last front new whole behind first none new_is =
      new_is ∙ sym (append-nil front) ∙ ap (λ b. front ++ kept_behind b) (sym none) ∙ first

-- another byte than `\r` stays at the end of a text
pub unreturned_byte : (front : List ℕ) (b : ℕ) → (b ≡ 13 → ⊥) → unreturned (front ++ b ∷ []) ≡ front ++ b ∷ []
unreturned_byte front b other = unreturned_other front b (ne_eqb b 13 other)
