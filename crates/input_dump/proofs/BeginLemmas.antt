-- Where a dump begins.
-- Shown: of a new cursor all rows are left (`begun`), and how many lines a text has (`count_lines`). By counting the lines from each on. The hard
-- one is `counts`: what the last line adds.
use Rattle.std.proofs.Common.{◌≡◌, ℕ, zero, suc, ◌+◌, ◌-◌, ◌<◌, ◌≤◌, ◌^◌, Bool, true, false, ◌||◌, nat_lt, if◌then◌else◌, List, [], ◌∷◌, ◌++◌, length, map, get_or, take, drop, All, refl, sym, ap, ◌∙◌, subst, arith, not, drop-cons, le_refl, length-drop, take_all, ⊎_elim}
use Rattle.std.proofs.lemmas.List.Sums.{suffix_len-le-length}
use Rattle.std.specs.List.{AllByRecursion, after_last, flat_map, slice_split, suffix_len}
use Rattle.std.proofs.lemmas.Bool.{cases_lt}
use Rattle.std.proofs.lemmas.Bool.Decides.{nat_tests}
use Rattle.std.proofs.lemmas.List.{map-append, take_more}
use denote.Ref.{Bor}
use Rattle.tt_base.specs.Place.{is_newline, line_end, line_start, place_at}
use Rattle.input_dump.proofs.LineLemmas.{begins_next, column, counted_more, end_above, end_within, last_line, line_further, line_length, lines_inside, next_line, next_number, same_count, split_some}
use Rattle.input_dump.proofs.StepLemmas.{none_pending}
use Rattle.input_dump.specs.Dump.{by_offset, counted, ends_marked, full_row, is_shown, line_at, lines_of, mark_line, mark_row, rows, rows_from, width_of}
use Rattle.input_dump.specs.Follow.{BeginsLine, Follows, IsColumn, IsSubject, left, lines_left, marks_of}
use Rattle.input_dump.specs.Order.{AreAscending}
use Rattle.input_dump.specs.declared.marking.Mark.{Mark}
use Rattle.input_dump.specs.declared.subject.Cursor.{Cursor}
use Rattle.input_dump.specs.declared.subject.Subject.{Subject}

-- ---- how many lines

-- what the last line adds to the count
abbrev pub more : Bool → ℕ → ℕ
more marked col = if marked || nat_lt 1 col then 1 else 0

same_lt : (n col : ℕ) → col ≡ n + 1 → nat_lt 0 n ≡ nat_lt 1 col
same_lt n col is = grind (arith, nat_tests, is)

by_test : (b : Bool) (line : List ℕ) → length (if b then line ∷ [] else []) ≡ (if b then 1 else 0)
by_test true line = refl
by_test false line = refl

one_line : (marked : Bool) (line : List ℕ) (col : ℕ) → col ≡ length line + 1 → length (counted marked (line ∷ [])) ≡ more marked col
one_line marked line col is =
    ap (λ b. length (if marked || b then line ∷ [] else [])) (same_lt (length line) col is) ∙ by_test (marked || nat_lt 1 col) line

counts : (marked : Bool) (text : List ℕ) (fuel start : ℕ) → length text < start + fuel → start ≤ length text → BeginsLine text start
    → line_at text start + length (counted marked (slice_split is_newline (drop start text)))
    ≡ line_at text (length text) + more marked (place_at text (length text)).col
counts marked text zero start over low begins = absurd (omega (arith, over, low))
counts marked text (suc fuel) start over low begins =
    let end = line_end text start in
    let line : List ℕ = take (end - start) (drop start text) in
    let above : start ≤ end = end_above text start end low refl in
    let within : end ≤ length text = end_within text start end low refl in
    ⊎_elim (λ (inside : end < length text).
    let some = split_some text (end + 1) (omega (arith, inside)) in
    let rest : List (List ℕ) = slice_split is_newline (drop (end + 1) text) in
    let cut : counted marked (slice_split is_newline (drop start text)) ≡ line ∷ counted marked rest =
    ap (counted marked) (next_line text start end low refl inside) ∙ counted_more marked line some.0 some.1 rest some.2 in
    let long : length (counted marked (slice_split is_newline (drop start text))) ≡ suc (length (counted marked rest)) = ap length cut in
    omega (
      arith,
      long,
      next_number text start end low refl inside,
      counts marked text fuel (end + 1) (omega (arith, over, above)) (omega (arith, inside)) (begins_next text start end low refl inside),
    ))
    (λ (at_end : length text ≤ end).
    let ends : end ≡ length text = omega (arith, at_end, within) in
    let same : line_at text (length text) ≡ line_at text start =
    ap (λ n. n + 1) (same_count text start end low refl (length text) low at_end) in
    let col : IsColumn text start (length text) = column text start end low refl begins (length text) (le_refl (length text)) same in
    let one : length (counted marked (line ∷ [])) ≡ more marked (place_at text (length text)).col =
    one_line marked line (place_at text (length text)).col (omega (arith, col.col, line_length text start end low refl, ends)) in
    let long : length (counted marked (slice_split is_newline (drop start text))) ≡ length (counted marked (line ∷ [])) =
    ap (λ l. length (counted marked l)) (last_line text start end low refl ends) in
    omega (arith, long, one, same))
    (cases_lt end (length text))

pub count_lines : (marked : Bool) (text : List ℕ)
    → 1 + length (counted marked (slice_split is_newline text)) ≡ line_at text (length text) + more marked (place_at text (length text)).col
count_lines marked text = counts marked text (length text + 1) 0 (omega arith) (omega arith) (λ below. absurd (omega (arith, below)))

-- ---- a new cursor

abbrev pub first : Cursor
first = record { start = 0; last = 0; number = 1; passed = 0; told = 0; hidden = false }

all_above : (text : List ℕ) (marks : List Mark) → AllByRecursion (λ line. 1 ≤ line) (map (mark_line text) marks)
all_above text [] = tt
all_above text (mark ∷ marks) = (omega arith, all_above text marks)

any_above : (lines : List ℕ) → AllByRecursion (λ line. 1 ≤ line + 1) lines
any_above [] = tt
any_above (line ∷ lines) = (omega arith, any_above lines)

lines_are : (text : List ℕ) (refs : List (Bor Mark))
    → map (λ mark. mark_line text mark.now) refs ≡ map (mark_line text) (map (λ mark. mark.now) refs)
lines_are text [] = refl
lines_are text (one ∷ refs) = ap (λ l. mark_line text one.now ∷ l) (lines_are text refs)

pub line_later : (text : List ℕ) (from at : ℕ) → from ≤ at → line_at text from ≤ line_at text at
line_later text from at low = omega (arith, line_further text from at low)

later_lines : (text : List ℕ) (at : ℕ) (refs : List (Bor Mark)) → AllByRecursion (λ other. at ≤ other) (map (λ mark. mark.now.at) refs)
    → AllByRecursion (λ line. line_at text at ≤ line) (map (λ mark. mark_line text mark.now) refs)
later_lines text at [] later = tt
later_lines text at (one ∷ refs) later = (line_later text at one.now.at later.0, later_lines text at refs later.1)

lines_ascend : (text : List ℕ) (refs : List (Bor Mark)) → AreAscending (map (λ mark. mark.now.at) refs)
    → AreAscending (map (λ mark. mark_line text mark.now) refs)
lines_ascend text [] up = tt
lines_ascend text (one ∷ refs) up = (later_lines text one.now.at refs up.0, lines_ascend text refs up.1)

first_follows : (s : Subject) → Follows s first
first_follows s = record {
  begins = λ low some. absurd (omega (arith, some));
  within = omega arith;
  number = λ low. refl;
  small = omega arith;
  passed_within = omega arith;
  passed = λ line later. refl;
  told_within = omega arith;
  told = λ line later. refl;
  later = any_above s.lines.items;
  column = λ at inside number. absurd (omega (arith, number));
}

abbrev all_rows : Subject → List ℕ → List Mark → ℕ → Bool → List ℕ
all_rows s lines order width marked =
    rows_from (is_shown s.shown lines) (full_row width s.text.now order) width false 1 (counted marked (slice_split is_newline s.text.now))

all_left : (s : Subject) → left s first ≡ all_rows s s.lines.items (marks_of s) s.width s.marked
all_left s =
    let text = s.text.now in
    let behind = rows_from (is_shown s.shown s.lines.items) (full_row s.width text (marks_of s)) s.width false 1 in
    ap (λ l. flat_map (mark_row s.width text) l ++ behind (lines_left s 0)) (none_pending text (marks_of s) 1 (all_above text (marks_of s)))
    ∙ ap behind (lines_inside s.marked text 0 (omega arith))

-- what a new dump is made from
pub record IsMadeOf (s : Subject) (marks : List Mark) : Type 0 where
  pub short : length s.text.now ≤ 2 ^ 30
  pub order : map (λ mark. mark.now) s.order.items ≡ by_offset (length s.text.now) marks
  pub within : All (λ mark. mark.now.at ≤ length s.text.now) s.order.items
  pub ascending : AreAscending (map (λ mark. mark.now.at) s.order.items)
  pub lines : s.lines.items ≡ map (λ mark. mark_line s.text.now mark.now) s.order.items
  pub marked : s.marked ≡ ends_marked s.text.now marks
  pub width : s.width ≡ width_of (length (lines_of s.text.now marks))
  pub narrow : s.width ≤ 10

pub record IsBegun (s : Subject) (marks : List Mark) : Type 0 where
  pub subject : IsSubject s
  pub follows : Follows s first
  pub exact : left s first ≡ rows s.text.now marks s.shown

pub begun : (s : Subject) (marks : List Mark) → IsMadeOf s marks → IsBegun s marks
begun s marks made =
    let text = s.text.now in
    let order = by_offset (length text) marks in
    let lines_is : s.lines.items ≡ map (mark_line text) (marks_of s) = made.lines ∙ lines_are text s.order.items in
    record {
      subject = record {
        short = made.short;
        within = made.within;
        lines = lines_is;
        ascending = subst AreAscending (sym made.lines) (lines_ascend text s.order.items made.ascending);
        narrow = omega (arith, made.narrow);
      };
      follows = first_follows s;
      exact = all_left s
          ∙ ap (λ l. all_rows s l (marks_of s) s.width s.marked) (lines_is ∙ ap (map (mark_line text)) made.order)
          ∙ ap (λ o. all_rows s (map (mark_line text) order) o s.width s.marked) made.order
          ∙ ap (λ w. all_rows s (map (mark_line text) order) order w s.marked) made.width
          ∙ ap (λ m. all_rows s (map (mark_line text) order) order (width_of (length (lines_of text marks))) m) made.marked;
    }

-- ---- the lines of marks, one by one

-- what is known of the marks from an index on
pub record IsNext (order : List (Bor Mark)) (i from : ℕ) (one : Bor Mark) : Type 0 where
  pub low : from ≤ one.now.at
  pub later : AllByRecursion (λ at. one.now.at ≤ at) (map (λ mark. mark.now.at) (drop (i + 1) order))
  pub ascending : AreAscending (map (λ mark. mark.now.at) (drop (i + 1) order))

pub next_mark : (order : List (Bor Mark)) (i from : ℕ) (one : Bor Mark) → i < length order → one ≡ get_or order i one
    → AllByRecursion (λ at. from ≤ at) (map (λ mark. mark.now.at) (drop i order)) → AreAscending (map (λ mark. mark.now.at) (drop i order))
    → IsNext order i from one
next_mark order i from one inside is later up =
    let next : suc i ≡ i + 1 = omega arith in
    let opened : drop i order ≡ one ∷ drop (i + 1) order =
    drop-cons order i one inside ∙ ap (λ l. l ∷ drop (suc i) order) (sym is) ∙ ap (λ n. one ∷ drop n order) next in
    let low : AllByRecursion (λ at. from ≤ at) (map (λ (mark : Bor Mark). mark.now.at) (one ∷ drop (i + 1) order)) =
    subst (λ l. AllByRecursion (λ at. from ≤ at) (map (λ (mark : Bor Mark). mark.now.at) l)) opened later in
    let climbs : AreAscending (map (λ (mark : Bor Mark). mark.now.at) (one ∷ drop (i + 1) order)) =
    subst (λ l. AreAscending (map (λ (mark : Bor Mark). mark.now.at) l)) opened up in
    record { low = low.0; later = climbs.0; ascending = climbs.1 }

pub one_more_line : (text : List ℕ) (order : List (Bor Mark)) (i : ℕ) (one : Bor Mark) → i < length order → one ≡ get_or order i one
    → (lines : List ℕ) (line : ℕ) → lines ≡ map (λ mark. mark_line text mark.now) (take i order) → line ≡ line_at text one.now.at
    → lines ++ (line ∷ []) ≡ map (λ mark. mark_line text mark.now) (take (i + 1) order)
one_more_line text order i one inside is lines line so_far known =
    let line_of = λ (mark : Bor Mark). mark_line text mark.now in
    let longer : take (i + 1) order ≡ take i order ++ (one ∷ []) =
    take_more order i one inside ∙ ap (λ x. take i order ++ (x ∷ [])) (sym is) in
    ap (λ l. l ++ (line ∷ [])) so_far ∙ ap (λ n. map line_of (take i order) ++ (n ∷ [])) known
    ∙ sym (ap (map line_of) longer ∙ map-append line_of (take i order) (one ∷ []))

-- ---- what the count of lines has for the last

pub more_marked : (marked : Bool) (col : ℕ) → marked ≡ true → more marked col ≡ 1
more_marked marked col is = ap (λ b. if b || nat_lt 1 col then 1 else 0) is

pub more_filled : (marked : Bool) (col : ℕ) → 1 < col → more marked col ≡ 1
more_filled true col some = refl
more_filled false col some = let yes_lt : nat_lt 1 col ≡ true = grind (arith, nat_tests, some) in ap (λ b. if b then 1 else 0) yes_lt

after_fits : (xs : List ℕ) → length (after_last is_newline xs) ≤ length xs
after_fits xs = let q = λ (x : ℕ). not (is_newline x) in omega (arith, length-drop (length xs - suffix_len q xs) xs, suffix_len-le-length q xs)

more_none : (marked : Bool) (col : ℕ) → marked ≡ false → col ≡ 1 → more marked col ≡ 0
more_none true col is first = let no : ⊥ = none_true is in absurd no
  where
    none_true : true ≡ false → ⊥
    none_true is = cc
more_none false col is first = let not_past : nat_lt 1 col ≡ false = grind (arith, nat_tests, first) in ap (λ b. if b then 1 else 0) not_past

module _ (marked : Bool) (text : List ℕ) (end : ℕ) (known : end ≡ line_at text (length text)) where
  abbrev count : ℕ
  count = length (counted marked (slice_split is_newline text))

  abbrev col : ℕ
  col = (place_at text (length text)).col

  -- a last line that counts, since it is marked
  pub lines_marked : marked ≡ true → end ≡ count
  lines_marked is = omega (arith, count_lines marked text, more_marked marked col is, known)

  module _ (last : ℕ) (from : last ≡ line_start text (length text)) where
    front : length (take (length text) text) ≡ length text
    front = ap length (take_all (length text) text (le_refl (length text)))

    -- an empty one that doesn't
    pub lines_left_out : marked ≡ false → last ≡ length text → end - 1 ≡ count
    lines_left_out bare at_end =
        let first : col ≡ 1 = omega (arith, from, at_end, after_fits (take (length text) text), front) in
        omega (arith, count_lines marked text, more_none marked col bare first, known)

    -- and one that isn't empty
    pub lines_filled : (last ≡ length text → ⊥) → end ≡ count
    lines_filled inside =
        let some : 1 < col = omega (arith, from, inside) in
        omega (arith, count_lines marked text, more_filled marked col some, known)
