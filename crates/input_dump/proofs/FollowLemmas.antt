-- What a step of the cursor keeps, and what it takes off the front of what is left.
-- Shown: behind a line the cursor follows (`line_follows`), and its row, or that of a gap, or nothing comes off (`shown_left`, `gap_left`,
-- `silent_left`); behind a mark likewise (`mark_follows`, `mark_left`). Idea: the marks that aren't told are those on lines from here on. The hard
-- one is `marks_come`: the marks of a line that is shown are those that are pending behind it.
use Rattle.std.proofs.Common.{◌≡◌, ℕ, zero, suc, ◌+◌, ◌-◌, ◌<◌, ◌≤◌, Bool, true, false, ◌||◌, IsTrue, List, [], ◌∷◌, ◌++◌, length, map, take, drop, get_or, slice_index, refl, sym, ap, ◌∙◌, subst, arith, append_assoc, drop-cons, true≢false, ⊎_elim}
use Rattle.std.specs.List.{AllByRecursion, flat_map}
use Rattle.std.proofs.lemmas.Bool.{cases_lt}
use Rattle.std.proofs.lemmas.Bool.Decides.{nat_tests}
use Rattle.std.proofs.lemmas.List.{drop-map, get_or-map, length-map}
use denote.Ref.{Bor}
use Rattle.tt_base.specs.Place.{line_end}
use Rattle.input_dump.proofs.LineLemmas.{begins_next, column, end_above, end_within, first_left, next_number, none_left}
use Rattle.input_dump.proofs.StepLemmas.{hidden_off, mark_off, none_off, none_on, none_pending, none_shown, pending_behind, shown_off, told_off}
use Rattle.input_dump.specs.Dump.{any_close, full_row, gap_before, is_close, is_shown, line_at, mark_line, mark_row, on_line, rows_from}
use Rattle.input_dump.specs.Follow.{Follows, HasLine, HasMark, IsSubject, left, lines_left, marks_of, pending}
use Rattle.input_dump.specs.Order.{AreAscending}
use Rattle.input_dump.specs.Rows.{line_row}
use Rattle.input_dump.specs.declared.marking.Mark.{Mark}
use Rattle.input_dump.specs.declared.subject.Cursor.{Cursor}
use Rattle.input_dump.specs.declared.subject.Subject.{Subject}

-- ---- marks that aren't told

above : (m number : ℕ) (others : List ℕ) → number ≤ m → AllByRecursion (λ other. m ≤ other) others → AllByRecursion (λ line. number ≤ line) others
above m number [] low all = tt
above m number (one ∷ others) low all = (omega (arith, low, all.0), above m number others low all.1)

-- where the first of lines in order isn't before a line, none is
from_first : (lines : List ℕ) (told number : ℕ) → AreAscending lines
    → ((told < length lines) × (slice_index lines told < number) → ⊥) → AllByRecursion (λ line. number ≤ line) (drop told lines)
from_first [] zero number up none = tt
from_first [] (suc told) number up none = tt
from_first (m ∷ lines) zero number up none =
    let low : number ≤ m =
    ⊎_elim (λ (before : m < number). absurd (none (omega arith, before))) (λ (low : number ≤ m). low) (cases_lt m number) in
    (low, above m number lines low up.0)
from_first (m ∷ lines) (suc told) number up none =
    from_first lines told number up.1 (λ has. none (omega (arith, has.0), has.1))

one_more : (lines : List ℕ) (number : ℕ) → AllByRecursion (λ line. number ≤ line) lines → AllByRecursion (λ line. number + 1 ≤ line + 1) lines
one_more [] number all = tt
one_more (line ∷ lines) number all = (omega (arith, all.0), one_more lines number all.1)

or_true : (a b : Bool) → b ≡ true → (a || b) ≡ true
or_true true b is = refl
or_true false b is = is

itself_close : (context line m : ℕ) → m ≡ line → is_close context line m ≡ true
itself_close context line m is = grind (arith, nat_tests, is)

-- a line with a mark is near it
close_at : (lines : List ℕ) (told context number : ℕ) → told < length lines → slice_index lines told ≡ number
    → any_close context number lines ≡ true
close_at [] told context number low is = absurd (omega (arith, low))
close_at (m ∷ lines) zero context number low is =
    ap (λ b. b || any_close context number lines) (itself_close context number m is)
close_at (m ∷ lines) (suc told) context number low is =
    or_true (is_close context number m) (any_close context number lines) (close_at lines told context number (omega (arith, low)) is)

-- ---- behind a line

module _ (s : Subject) (c : Cursor) (subject : IsSubject s) (follows : Follows s c) (no_mark : HasMark s c → ⊥) where
  abbrev text : List ℕ
  text = s.text.now

  from_here : AllByRecursion (λ line. c.number ≤ line) (drop c.told s.lines.items)
  from_here = from_first s.lines.items c.told c.number subject.ascending no_mark

  told_lines : drop c.told s.lines.items ≡ map (mark_line text) (drop c.told (marks_of s))
  told_lines = ap (drop c.told) subject.lines ∙ drop-map (mark_line text) c.told (marks_of s)

  none_waits : pending text c.number (drop c.told (marks_of s)) ≡ []
  none_waits = none_pending text (drop c.told (marks_of s)) c.number (subst (AllByRecursion (λ line. c.number ≤ line)) told_lines from_here)

  abbrev lines_behind : List (List ℕ) → List ℕ
  lines_behind = rows_from (is_shown s.shown s.lines.items) (full_row s.width text (marks_of s)) s.width c.hidden c.number

  -- with no line at hand there is nothing left
  pub nothing_left : (HasLine s c → ⊥) → left s c ≡ []
  nothing_left no_line =
      ap (λ l. flat_map (mark_row s.width text) l ++ lines_behind (lines_left s c.start)) none_waits
      ∙ ap lines_behind (none_left text c.start s.marked no_line)
      ∙ none_off (is_shown s.shown s.lines.items) (full_row s.width text (marks_of s)) s.width c.number c.hidden

  -- behind a hidden line nothing is left where all later ones are hidden
  pub all_hidden : c.hidden ≡ true → ((line : ℕ) → c.number ≤ line → is_shown s.shown s.lines.items line ≡ false) → left s c ≡ []
  all_hidden shut far =
      ap (λ l. flat_map (mark_row s.width text) l ++ lines_behind (lines_left s c.start)) none_waits
      ∙ ap (λ h. rows_from (is_shown s.shown s.lines.items) (full_row s.width text (marks_of s)) s.width h c.number (lines_left s c.start)) shut
      ∙ none_shown (is_shown s.shown s.lines.items) (full_row s.width text (marks_of s)) s.width c.number (lines_left s c.start) far

  -- and the cursor may stand behind the text
  abbrev pub ended : Cursor
  ended = record c { start = length text + 1 }

  pub ended_follows : Follows s ended
  ended_follows = record {
    begins = λ inside. absurd (omega (arith, inside));
    within = omega arith;
    number = λ inside. absurd (omega (arith, inside));
    small = omega (arith, follows.small, follows.within);
    passed_within = follows.passed_within;
    passed = follows.passed;
    told_within = follows.told_within;
    told = follows.told;
    later = follows.later;
    column = follows.column;
  }

  module _ (here : HasLine s c) where
    low : c.start ≤ length text
    low = ⊎_elim (λ (inside : c.start < length text). omega (arith, inside))
        (λ (at_end : (c.start ≡ length text) × IsTrue s.marked). omega (arith, at_end.0)) here

    -- the marks of the line are those that are pending behind it
    marks_come : pending text (c.number + 1) (drop c.told (marks_of s)) ≡ on_line text c.number (marks_of s)
    marks_come = pending_behind text (drop c.told (marks_of s)) c.number ∙ follows.told c.number (omega arith)

    module _ (end passed : ℕ) (is : end ≡ line_end text c.start) (hidden : Bool) (within : passed ≤ length s.lines.items)
        (same : (line : ℕ) → c.number ≤ line
        → any_close s.shown.context line (drop passed s.lines.items) ≡ any_close s.shown.context line (drop c.passed s.lines.items)) where
      abbrev pub behind : Cursor
      behind = record { start = end + 1; last = c.start; number = c.number + 1; passed = passed; told = c.told; hidden = hidden }

      pub line_follows : Follows s behind
      line_follows =
          let reaches = end_within text c.start end low is in
          let longer = end_above text c.start end low is in
          record {
            begins = λ inside. begins_next text c.start end low is (omega (arith, inside));
            within = omega (arith, reaches);
            number = λ inside. omega (arith, next_number text c.start end low is (omega (arith, inside)), follows.number low);
            small = omega (arith, follows.small, longer);
            passed_within = within;
            passed = λ line later. same line (omega (arith, later)) ∙ follows.passed line (omega (arith, later));
            told_within = follows.told_within;
            told = λ line later. follows.told line (omega (arith, later));
            later = one_more (drop c.told s.lines.items) c.number from_here;
            column = λ at inside number.
                let line_is : line_at text at ≡ line_at text c.start = omega (arith, number, follows.number low) in
                column text c.start end low is (follows.begins low) at inside line_is;
          }

      abbrev line : List ℕ
      line = take (end - c.start) (drop c.start text)

      abbrev shown_at : ℕ → Bool
      shown_at = is_shown s.shown s.lines.items

      abbrev row_at : ℕ → List ℕ → List ℕ
      row_at = full_row s.width text (marks_of s)

      -- what is left is this line and those behind it
      opened : left s c ≡ rows_from shown_at row_at s.width c.hidden c.number (line ∷ lines_left s (end + 1))
      opened =
          ap (λ l. flat_map (mark_row s.width text) l ++ rows_from shown_at row_at s.width c.hidden c.number (lines_left s c.start)) none_waits
          ∙ ap (λ l. rows_from shown_at row_at s.width c.hidden c.number l) (first_left text c.start end low is s.marked here)

      pub shown_left : hidden ≡ false → shown_at c.number ≡ true → left s c ≡ line_row s.width c.number line ++ left s behind
      shown_left bare shown =
          opened ∙ shown_off shown_at row_at s.width c.number c.hidden line (lines_left s (end + 1)) shown
          ∙ ap (λ l. (line_row s.width c.number line ++ flat_map (mark_row s.width text) l)
          ++ rows_from shown_at row_at s.width false (c.number + 1) (lines_left s (end + 1))) (sym marks_come)
          ∙ append_assoc (line_row s.width c.number line) (flat_map (mark_row s.width text) (pending text (c.number + 1) (drop c.told (marks_of s))))
          (rows_from shown_at row_at s.width false (c.number + 1) (lines_left s (end + 1)))
          ∙ ap (λ h. line_row s.width c.number line ++ (flat_map (mark_row s.width text) (pending text (c.number + 1) (drop c.told (marks_of s)))
          ++ rows_from shown_at row_at s.width h (c.number + 1) (lines_left s (end + 1)))) (sym bare)

      or_false : (a b : Bool) → (a || b) ≡ false → b ≡ false
      or_false true b is = absurd (none_true is)
        where
          none_true : true ≡ false → ⊥
          none_true is = cc
      or_false false b is = is

      none_comes : shown_at c.number ≡ false → pending text (c.number + 1) (drop c.told (marks_of s)) ≡ []
      none_comes unshown =
          let far : any_close s.shown.context c.number (map (mark_line text) (marks_of s)) ≡ false =
          ap (any_close s.shown.context c.number) (sym subject.lines) ∙ or_false s.shown.all _ unshown in
          marks_come ∙ none_on text (marks_of s) s.shown.context c.number far

      -- no mark is to be told behind a line that isn't shown
      pub none_behind : shown_at c.number ≡ false → HasMark s behind → ⊥
      none_behind unshown has =
          let far : any_close s.shown.context c.number s.lines.items ≡ false = or_false s.shown.all _ unshown in
          ⊎_elim (λ (before : slice_index s.lines.items c.told < c.number). no_mark (has.0, before))
          (λ (high : c.number ≤ slice_index s.lines.items c.told).
          true≢false (sym (close_at s.lines.items c.told s.shown.context c.number has.0 (omega (arith, high, has.1))) ∙ far))
          (cases_lt (slice_index s.lines.items c.told) c.number)

      -- a hidden line takes the row of a gap with it, or nothing
      pub hidden_left : hidden ≡ true → shown_at c.number ≡ false → left s c ≡ gap_before s.width c.hidden (left s behind)
      hidden_left shut unshown =
          opened ∙ hidden_off shown_at row_at s.width c.number c.hidden line (lines_left s (end + 1)) unshown
          ∙ sym (ap (λ l. gap_before s.width c.hidden (flat_map (mark_row s.width text) l
          ++ rows_from shown_at row_at s.width hidden (c.number + 1) (lines_left s (end + 1)))) (none_comes unshown)
          ∙ ap (λ h. gap_before s.width c.hidden (rows_from shown_at row_at s.width h (c.number + 1) (lines_left s (end + 1)))) shut)

pub ended_left : (s : Subject) (c : Cursor) (subject : IsSubject s) (follows : Follows s c) (no_mark : HasMark s c → ⊥)
    → left s (ended s c subject follows no_mark) ≡ []
ended_left s c subject follows no_mark =
    nothing_left s (ended s c subject follows no_mark) subject (ended_follows s c subject follows no_mark) no_mark
    (λ here. ⊎_elim (λ (inside : length s.text.now + 1 < length s.text.now). absurd (omega (arith, inside)))
    (λ (at_end : (length s.text.now + 1 ≡ length s.text.now) × IsTrue s.marked). absurd (omega (arith, at_end.0))) here)

-- a hidden line behind another one, which the cursor passes
pub record IsPassed (s : Subject) (c next : Cursor) : Type 0 where
  pub follows : Follows s next
  pub no_mark : HasMark s next → ⊥
  pub same : left s next ≡ left s c
  pub further : c.start < next.start

pub passes_one : (s : Subject) (c : Cursor) → IsSubject s → Follows s c → (HasMark s c → ⊥) → HasLine s c → (end : ℕ)
    → end ≡ line_end s.text.now c.start → c.hidden ≡ true → is_shown s.shown s.lines.items c.number ≡ false
    → IsPassed s c (record c { start = end + 1; last = c.start; number = c.number + 1 })
passes_one s c subject follows no_mark here end is shut unshown =
    let within = follows.passed_within in
    let off = hidden_left s c subject follows no_mark here end c.passed is c.hidden within (λ line later. refl) shut unshown in
    let next : Cursor = record c { start = end + 1; last = c.start; number = c.number + 1 } in
    let low : c.start ≤ length s.text.now = ⊎_elim (λ (inside : c.start < length s.text.now). omega (arith, inside))
    (λ (at_end : (c.start ≡ length s.text.now) × IsTrue s.marked). omega (arith, at_end.0)) here in
    record {
      follows = line_follows s c subject follows no_mark here end c.passed is c.hidden within (λ line later. refl);
      no_mark = none_behind s c subject follows no_mark here end c.passed is c.hidden within (λ line later. refl) unshown;
      same = sym (off ∙ ap (λ h. gap_before s.width h (left s next)) shut);
      further = omega (arith, end_above s.text.now c.start end low is);
    }

-- ---- behind a mark

later_ones : (lines : List ℕ) (told number : ℕ) → told < length lines → AllByRecursion (λ line. number ≤ line + 1) (drop told lines)
    → (number ≤ get_or lines told 0 + 1) × AllByRecursion (λ line. number ≤ line + 1) (drop (told + 1) lines)
later_ones lines told number low all =
    let opened : drop told lines ≡ get_or lines told 0 ∷ drop (suc told) lines = drop-cons lines told 0 low in
    let both : AllByRecursion (λ line. number ≤ line + 1) (get_or lines told 0 ∷ drop (suc told) lines) =
    subst (AllByRecursion (λ line. number ≤ line + 1)) opened all in
    let next : suc told ≡ told + 1 = omega arith in
    (both.0, subst (λ n. AllByRecursion (λ line. number ≤ line + 1) (drop n lines)) next both.1)

module _ (s : Subject) (c : Cursor) (subject : IsSubject s) (follows : Follows s c) (has : HasMark s c) (mark : Mark)
    (first : drop c.told (marks_of s) ≡ mark ∷ drop (c.told + 1) (marks_of s)) (line_is : get_or s.lines.items c.told 0 ≡ mark_line s.text.now mark) where
  abbrev pub told : Cursor
  told = record c { told = c.told + 1 }

  later_lines : (c.number ≤ get_or s.lines.items c.told 0 + 1) × AllByRecursion (λ line. c.number ≤ line + 1) (drop (c.told + 1) s.lines.items)
  later_lines = later_ones s.lines.items c.told c.number has.0 follows.later

  -- it stands on the line before the one at hand
  pub on_last : mark_line s.text.now mark + 1 ≡ c.number
  on_last = omega (arith, later_lines.0, has.1, line_is)

  pub mark_follows : Follows s told
  mark_follows = record {
    begins = follows.begins;
    within = follows.within;
    number = follows.number;
    small = follows.small;
    passed_within = follows.passed_within;
    passed = follows.passed;
    told_within = omega (arith, has.0);
    told = λ line later.
        sym (told_off s.text.now mark (drop (c.told + 1) (marks_of s)) line (omega (arith, on_last, later)))
        ∙ ap (on_line s.text.now line) (sym first) ∙ follows.told line later;
    later = later_lines.1;
    column = follows.column;
  }

  pub mark_left : left s c ≡ mark_row s.width s.text.now mark ++ left s told
  mark_left =
      let text = s.text.now in
      let rest = rows_from (is_shown s.shown s.lines.items) (full_row s.width text (marks_of s)) s.width c.hidden c.number (lines_left s c.start) in
      ap (λ l. flat_map (mark_row s.width text) (pending text c.number l) ++ rest) first
      ∙ ap (λ l. flat_map (mark_row s.width text) l ++ rest) (mark_off text mark (drop (c.told + 1) (marks_of s)) c.number on_last)
      ∙ append_assoc (mark_row s.width text mark) (flat_map (mark_row s.width text) (pending text c.number (drop (c.told + 1) (marks_of s)))) rest

-- a mark that isn't told, by its reference
pub record IsAt (s : Subject) (told : ℕ) (mark : Mark) : Type 0 where
  pub first : drop told (marks_of s) ≡ mark ∷ drop (told + 1) (marks_of s)
  pub line : get_or s.lines.items told 0 ≡ mark_line s.text.now mark
  pub within : mark.at ≤ length s.text.now

pub mark_at : (s : Subject) (told : ℕ) (one : Bor Mark) → IsSubject s → told < length s.lines.items → one ≡ get_or s.order.items told one
    → IsAt s told one.now
mark_at s told one subject low is =
    let refs : List (Bor Mark) = s.order.items in
    let now = λ (mark : Bor Mark). mark.now in
    let as_many : length s.lines.items ≡ length refs =
    ap length subject.lines ∙ length-map (marks_of s) (mark_line s.text.now) ∙ length-map refs now in
    let inside : told < length refs = omega (arith, low, as_many) in
    let next : suc told ≡ told + 1 = omega arith in
    let first_is : drop told (marks_of s) ≡ one.now ∷ drop (told + 1) (marks_of s) =
    drop-map now told refs ∙ ap (map now) (drop-cons refs told one inside)
    ∙ ap (λ l. l ∷ map now (drop (suc told) refs)) (sym (ap now is)) ∙ ap (λ n. one.now ∷ map now (drop n refs)) next
    ∙ sym (ap (λ l. one.now ∷ l) (drop-map now (told + 1) refs)) in
    record {
      first = first_is;
      line = ap (λ l. get_or l told 0) subject.lines ∙ get_or-map (mark_line s.text.now) (marks_of s) told one.now 0 (omega (arith, low, ap length subject.lines, length-map (marks_of s) (mark_line s.text.now)))
          ∙ ap (mark_line s.text.now) (get_or-map now refs told one one.now inside ∙ sym (ap now is));
      within = subst (λ (mark : Bor Mark). mark.now.at ≤ length s.text.now) (sym is) (subject.within told one inside);
    }
