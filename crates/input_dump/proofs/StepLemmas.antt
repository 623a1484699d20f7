-- What a step of a dump leaves: the row of a mark, of a line, or of a gap comes off the front of what was left.
-- Shown: over lists of marks and their lines, how those of one line come off (`mark_off`), and how a line does (`shown_off`, `hidden_off`). The
-- hard one is `same_rows`: rows go by the marks on lines from here on alone.
use Rattle.std.proofs.Common.{◌≡◌, ℕ, ◌+◌, ◌<◌, ◌≤◌, ◌==◌, Bool, true, false, ◌||◌, if◌then◌else◌, List, [], ◌∷◌, ◌++◌, map, refl, sym, ap, ◌∙◌, arith, true≢false}
use Rattle.std.specs.List.{AllByRecursion}
use Rattle.std.proofs.lemmas.Bool.Decides.{nat_tests}
use Rattle.std.proofs.lemmas.Bool.{eqb-true}
use Rattle.input_dump.specs.Dump.{any_close, gap_before, is_close, mark_line, on_line, rows_from}
use Rattle.input_dump.specs.Follow.{pending}
use Rattle.input_dump.specs.declared.marking.Mark.{Mark}

other_line : (k n : ℕ) → k < n → (k == n) ≡ false
other_line k n low = grind (arith, nat_tests, low)

this_line : (k n : ℕ) → k ≡ n → (k == n) ≡ true
this_line k n is = grind (arith, nat_tests, is)

above_line : (k n : ℕ) → n < k → (k == n) ≡ false
above_line k n high = grind (arith, nat_tests, high)

module _ (text : List ℕ) where
  -- a mark of the line before is first of those that are pending
  pub mark_off : (mark : Mark) (marks : List Mark) (number : ℕ) → mark_line text mark + 1 ≡ number
      → pending text number (mark ∷ marks) ≡ mark ∷ pending text number marks
  mark_off mark marks number is =
      ap (λ b. if b then mark ∷ pending text number marks else pending text number marks) (this_line (mark_line text mark + 1) number is)

  -- a mark before a line is none of it
  pub told_off : (mark : Mark) (marks : List Mark) (line : ℕ) → mark_line text mark < line → on_line text line (mark ∷ marks) ≡ on_line text line marks
  told_off mark marks line low =
      ap (λ b. if b then mark ∷ on_line text line marks else on_line text line marks) (other_line (mark_line text mark) line low)

  -- where all marks stand on later lines none is pending
  pub none_pending : (marks : List Mark) (number : ℕ) → AllByRecursion (λ line. number ≤ line) (map (mark_line text) marks)
      → pending text number marks ≡ []
  none_pending [] number later = refl
  none_pending (mark ∷ marks) number later =
      ap (λ b. if b then mark ∷ pending text number marks else pending text number marks)
      (above_line (mark_line text mark + 1) number (omega (arith, later.0)))
      ∙ none_pending marks number later.1

  same_test : (k n : ℕ) → (k + 1 == n + 1) ≡ (k == n)
  same_test k n = grind (arith, nat_tests)

  -- those of a line are pending behind it
  pub pending_behind : (marks : List Mark) (number : ℕ) → pending text (number + 1) marks ≡ on_line text number marks
  pending_behind [] number = refl
  pending_behind (mark ∷ marks) number =
      ap (λ b. if b then mark ∷ pending text (number + 1) marks else pending text (number + 1) marks) (same_test (mark_line text mark) number)
      ∙ ap (λ l. if mark_line text mark == number then mark ∷ l else l) (pending_behind marks number)

  close_here : (context line : ℕ) → is_close context line line ≡ true
  close_here context line = grind (arith, nat_tests)

  false_or : (a b : Bool) → (a || b) ≡ false → b ≡ false
  false_or true b is = absurd (true≢false is)
  false_or false b is = is

  none_by : (mark : Mark) (marks : List Mark) (context line : ℕ) → any_close context line (map (mark_line text) (mark ∷ marks)) ≡ false
      → (any_close context line (map (mark_line text) marks) ≡ false → on_line text line marks ≡ [])
      → (test : Bool) → (mark_line text mark == line) ≡ test → on_line text line (mark ∷ marks) ≡ []
  none_by mark marks context line far later true is =
      let here : mark_line text mark ≡ line = eqb-true (mark_line text mark) line is in
      let close : is_close context line (mark_line text mark) ≡ true = ap (is_close context line) here ∙ close_here context line in
      absurd (true≢false (sym (ap (λ b. b || any_close context line (map (mark_line text) marks)) close) ∙ far))
  none_by mark marks context line far later false is =
      ap (λ b. if b then mark ∷ on_line text line marks else on_line text line marks) is
      ∙ later (false_or (is_close context line (mark_line text mark)) _ far)

  -- a line that isn't near any mark has none
  pub none_on : (marks : List Mark) (context line : ℕ) → any_close context line (map (mark_line text) marks) ≡ false
      → on_line text line marks ≡ []
  none_on [] context line far = refl
  none_on (mark ∷ marks) context line far =
      none_by mark marks context line far (none_on marks context line) (mark_line text mark == line) refl

-- ---- rows

-- a line that is shown
pub shown_off : (shown : ℕ → Bool) (row : ℕ → List ℕ → List ℕ) (width number : ℕ) (hidden : Bool) (line : List ℕ) (lines : List (List ℕ))
    → shown number ≡ true
    → rows_from shown row width hidden number (line ∷ lines) ≡ row number line ++ rows_from shown row width false (number + 1) lines
unfolding rows_from
shown_off shown row width number hidden line lines is =
    ap (λ b. if b then row number line ++ rows_from shown row width false (number + 1) lines
    else gap_before width hidden (rows_from shown row width true (number + 1) lines)) is

-- one that isn't
pub hidden_off : (shown : ℕ → Bool) (row : ℕ → List ℕ → List ℕ) (width number : ℕ) (hidden : Bool) (line : List ℕ) (lines : List (List ℕ))
    → shown number ≡ false
    → rows_from shown row width hidden number (line ∷ lines) ≡ gap_before width hidden (rows_from shown row width true (number + 1) lines)
unfolding rows_from
hidden_off shown row width number hidden line lines is =
    ap (λ b. if b then row number line ++ rows_from shown row width false (number + 1) lines
    else gap_before width hidden (rows_from shown row width true (number + 1) lines)) is

pub none_off : (shown : ℕ → Bool) (row : ℕ → List ℕ → List ℕ) (width number : ℕ) (hidden : Bool)
    → rows_from shown row width hidden number [] ≡ []
unfolding rows_from
none_off shown row width number hidden = refl

-- where all lines from a number on are hidden, nothing stands behind one that is
pub none_shown : (shown : ℕ → Bool) (row : ℕ → List ℕ → List ℕ) (width number : ℕ) (lines : List (List ℕ))
    → ((line : ℕ) → number ≤ line → shown line ≡ false) → rows_from shown row width true number lines ≡ []
none_shown shown row width number [] far = none_off shown row width number true
none_shown shown row width number (line ∷ lines) far =
    hidden_off shown row width number true line lines (far number (omega arith))
    ∙ none_shown shown row width (number + 1) lines (λ later low. far later (omega (arith, low)))
