-- Lines of a text and of its offsets.
-- Shown: what the lines from an offset on are, where a line ends, and the line and the column of an offset. By counting newlines. The hard one
-- is `column`: the offsets with the number of a line are those of the line.
use Rattle.std.proofs.Common.{◌≡◌, ◌⊎◌, ℕ, zero, suc, ◌+◌, ◌-◌, ◌<◌, ◌≤◌, Bool, true, false, not, ◌||◌, IsTrue, nat_le, nat_lt, if◌then◌else◌, List, [], ◌∷◌, ◌++◌, length, get_or, take, drop, inl, inr, refl, sym, ap, ◌∙◌, arith, le_refl, length-drop, take_all, ⊎_elim}
use Rattle.std.proofs.lemmas.Bool.{cases_lt}
use Rattle.std.proofs.lemmas.Bool.Decides.{nat_tests}
use Rattle.std.proofs.lemmas.List.{drop-drop, drop-take, get_or-drop, get_or-take, length-take-le, take-append-drop, take-take}
use Rattle.std.proofs.lemmas.List.Elements.{All-from_all_within}
use Rattle.std.proofs.lemmas.List.Splits.{slice_split_first, slice_split_none}
use Rattle.std.proofs.lemmas.List.Sums.{count_by_more_no, count_by_more_yes, fails_before_first, passes_at_first, prefix_len-le-length, suffix_len_is, suffix_len-le-length, sum_by-append}
use Rattle.std.specs.List.{after_last, count_by, position_or_len, slice_split, suffix_len}
use Rattle.tt_base.specs.Place.{is_newline, line_end}
use Rattle.input_dump.specs.Dump.{counted, line_at}
use Rattle.input_dump.specs.Follow.{BeginsLine, IsColumn}

-- ---- the lines of offsets

count_append : (xs ys : List ℕ) → count_by is_newline (xs ++ ys) ≡ count_by is_newline xs + count_by is_newline ys
count_append xs ys = sum_by-append _ xs ys

-- the newlines before an offset are those before an earlier one and those between
pub line_further : (text : List ℕ) (from at : ℕ) → from ≤ at
    → line_at text at ≡ line_at text from + count_by is_newline (take (at - from) (drop from text))
line_further text from at low =
    let there : from + (at - from) ≡ at = omega (arith, low) in
    let front : take from (take at text) ≡ take from text = take-take from at text low in
    let back : drop from (take at text) ≡ take (at - from) (drop from text) =
    sym (ap (λ n. drop from (take n text)) there) ∙ drop-take from (at - from) text in
    let parts : count_by is_newline (take at text) ≡ count_by is_newline (take from text) + count_by is_newline (take (at - from) (drop from text)) =
    sym (ap (count_by is_newline) (take-append-drop from (take at text)))
    ∙ count_append (take from (take at text)) (drop from (take at text))
    ∙ ap (λ l. count_by is_newline l + count_by is_newline (drop from (take at text))) front
    ∙ ap (λ l. count_by is_newline (take from text) + count_by is_newline l) back in
    omega (arith, parts)

-- behind the beginning of a line the number is greater than before
pub before_begin : (text : List ℕ) (start at : ℕ) → start ≤ length text → BeginsLine text start → at < start → line_at text at < line_at text start
before_begin text start at low begins below =
    let there : start - 1 + 1 ≡ start = omega (arith, below) in
    let more : count_by is_newline (take (start - 1 + 1) text) ≡ count_by is_newline (take (start - 1) text) + 1 =
    count_by_more_yes is_newline text (start - 1) 0 (omega (arith, low, below)) (begins (omega (arith, below))) in
    let same : count_by is_newline (take start text) ≡ count_by is_newline (take (start - 1) text) + 1 =
    sym (ap (λ n. count_by is_newline (take n text)) there) ∙ more in
    omega (arith, same, line_further text at (start - 1) (omega (arith, below)))

-- ---- where a line ends

position_fits : (xs : List ℕ) → position_or_len is_newline xs ≤ length xs
position_fits xs = prefix_len-le-length _ xs

line_end_is : (text : List ℕ) (start : ℕ) → line_end text start ≡ start + position_or_len is_newline (drop start text)
line_end_is text start =
    ap (λ n. start + n) (length-take-le (position_or_len is_newline (drop start text)) (drop start text) (position_fits (drop start text)))

-- the lines from an offset on, at which one begins if it lies in the text
abbrev pub lines_from : Bool → List ℕ → ℕ → List (List ℕ)
lines_from marked text start = if nat_le start (length text) then counted marked (slice_split is_newline (drop start text)) else []

pub lines_inside : (marked : Bool) (text : List ℕ) (start : ℕ) → start ≤ length text
    → lines_from marked text start ≡ counted marked (slice_split is_newline (drop start text))
lines_inside marked text start low =
    let yes : nat_le start (length text) ≡ true = grind (arith, nat_tests, low) in
    ap (λ b. if b then counted marked (slice_split is_newline (drop start text)) else []) yes

lines_outside : (marked : Bool) (text : List ℕ) (start : ℕ) → length text < start → lines_from marked text start ≡ []
lines_outside marked text start high =
    let no : nat_le start (length text) ≡ false = grind (arith, nat_tests, high) in
    ap (λ b. if b then counted marked (slice_split is_newline (drop start text)) else []) no

pub counted_more : (marked : Bool) (line next : List ℕ) (lines rest : List (List ℕ)) → rest ≡ next ∷ lines
    → counted marked (line ∷ rest) ≡ line ∷ counted marked rest
counted_more marked line next lines rest is =
    ap (λ r. counted marked (line ∷ r)) is ∙ sym (ap (λ r. line ∷ counted marked r) is)

counted_one : (marked : Bool) (line : List ℕ) → (marked || nat_lt 0 (length line)) ≡ true → counted marked (line ∷ []) ≡ line ∷ []
counted_one marked line counts = ap (λ b. if b then line ∷ [] else []) counts

counted_none : (line : List ℕ) → length line ≡ 0 → counted false (line ∷ []) ≡ []
counted_none line none =
    let no : nat_lt 0 (length line) ≡ false = grind (arith, nat_tests, none) in ap (λ b. if b then line ∷ [] else []) no

filled : (marked : Bool) (n : ℕ) → 0 < n → (marked || nat_lt 0 n) ≡ true
filled true n some = refl
filled false n some = grind (arith, nat_tests, some)

or_marked : (marked other : Bool) → IsTrue marked → (marked || other) ≡ true
or_marked true other is = refl
or_marked false other is = absurd (no_true is)
  where
    no_true : IsTrue false → ⊥
    no_true is = cc

module _ (text : List ℕ) (start end : ℕ) (low : start ≤ length text) (is : end ≡ line_end text start) where
  pub end_above : start ≤ end
  end_above = omega (arith, line_end_is text start)

  pub end_within : end ≤ length text
  end_within = omega (arith, line_end_is text start, position_fits (drop start text), length-drop start text)

  pub line_length : length (take (end - start) (drop start text)) ≡ end - start
  line_length = length-take-le (end - start) (drop start text) (omega (arith, end_within, length-drop start text))

  -- no byte of the line is a newline
  no_newline : (k : ℕ) → start ≤ k → k < end → is_newline (get_or text k 0) ≡ false
  no_newline k above below =
      let there : start + (k - start) ≡ k = omega arith in
      ap (λ n. is_newline (get_or text n 0)) (sym there) ∙ ap is_newline (sym (get_or-drop start text (k - start) 0))
      ∙ fails_before_first is_newline (drop start text) (k - start) 0 (omega (arith, line_end_is text start))

  -- the byte behind it is one
  newline_at : end < length text → is_newline (get_or text end 0) ≡ true
  newline_at inside =
      let n = position_or_len is_newline (drop start text) in
      let at_end : start + n ≡ end = sym (is ∙ line_end_is text start) in
      ap (λ k. is_newline (get_or text k 0)) (sym at_end) ∙ ap is_newline (sym (get_or-drop start text n 0))
      ∙ passes_at_first is_newline (drop start text) 0 (omega (arith, length-drop start text))

  pub begins_next : end < length text → BeginsLine text (end + 1)
  begins_next inside some =
      let there : end + 1 - 1 ≡ end = omega arith in ap (λ n. is_newline (get_or text n 0)) there ∙ newline_at inside

  -- the last line
  pub last_line : end ≡ length text → slice_split is_newline (drop start text) ≡ take (end - start) (drop start text) ∷ []
  last_line ends =
      let rest = drop start text in
      let n = position_or_len is_newline rest in
      let at_end : end ≡ start + n = is ∙ line_end_is text start in
      let whole : length rest ≡ n = omega (arith, length-drop start text) in
      let same : take (end - start) rest ≡ rest = take_all (end - start) rest (omega arith) in
      slice_split_none is_newline rest (All-from_all_within (λ x. is_newline x ≡ false) rest
      (λ k d low_k below. fails_before_first is_newline rest k d (omega arith)))
      ∙ ap (λ l. l ∷ []) (sym same)

  -- a line before others
  pub next_line : end < length text → slice_split is_newline (drop start text)
      ≡ take (end - start) (drop start text) ∷ slice_split is_newline (drop (end + 1) text)
  next_line inside =
      let rest = drop start text in
      let n = position_or_len is_newline rest in
      let at_end : end ≡ start + n = is ∙ line_end_is text start in
      let found : n < length rest = omega (arith, length-drop start text) in
      let count : n ≡ end - start = omega arith in
      let later : start + (n + 1) ≡ end + 1 = omega arith in
      slice_split_first is_newline rest 0 found
      ∙ ap (λ k. take k rest ∷ slice_split is_newline (drop (n + 1) rest)) count
      ∙ ap (λ l. take (end - start) rest ∷ slice_split is_newline l)
      (drop-drop (n + 1) start text ∙ ap (λ k. drop k text) later)

  count_to : (k : ℕ) → start + k ≤ end → count_by is_newline (take (start + k) text) ≡ count_by is_newline (take start text)
  count_to zero within = let none : start + 0 ≡ start = omega arith in ap (λ n. count_by is_newline (take n text)) none
  count_to (suc k) within =
      let next : start + suc k ≡ start + k + 1 = omega arith in
      let inside : start + k < length text = omega (arith, within, end_within) in
      ap (λ n. count_by is_newline (take n text)) next
      ∙ count_by_more_no is_newline text (start + k) 0 inside (no_newline (start + k) (omega arith) (omega (arith, within)))
      ∙ count_to k (omega (arith, within))

  pub same_count : (at : ℕ) → start ≤ at → at ≤ end → count_by is_newline (take at text) ≡ count_by is_newline (take start text)
  same_count at above below =
      let there : at ≡ start + (at - start) = omega arith in
      ap (λ n. count_by is_newline (take n text)) there ∙ count_to (at - start) (omega arith)

  front_length : BeginsLine text start → (at : ℕ) → start ≤ at → at ≤ end
      → length (after_last is_newline (take at text)) ≡ at - start
  front_length begins at above below =
      let front = take at text in
      let long : length front ≡ at = length-take-le at text (omega (arith, below, end_within)) in
      let q = λ (x : ℕ). not (is_newline x) in
      let measured : suffix_len q front ≡ length front - start =
      suffix_len_is q front start 0 (omega (arith, long, above))
      (λ k low_k high. let inside : k < at = omega (arith, long, high) in
      ap q (get_or-take at text k 0 inside) ∙ ap not (no_newline k low_k (omega (arith, inside, below))))
      (λ some. let inside : start - 1 < at = omega (arith, some, above) in
      ap q (get_or-take at text (start - 1) 0 inside) ∙ ap not (begins some)) in
      omega (arith, length-drop (length front - suffix_len q front) front, suffix_len-le-length q front)

  -- the line behind this one has the next number
  pub next_number : end < length text → line_at text (end + 1) ≡ line_at text start + 1
  next_number inside =
      let more : count_by is_newline (take (end + 1) text) ≡ count_by is_newline (take end text) + 1 =
      count_by_more_yes is_newline text end 0 inside (newline_at inside) in
      omega (arith, more, same_count end end_above (le_refl end))

  -- the offsets with the number of the line lie on it
  on_this : (at : ℕ) → at ≤ length text → line_at text at ≡ line_at text start → at ≤ end
  on_this at within same =
      ⊎_elim (λ (behind : end < at).
      absurd (omega (arith, next_number (omega (arith, behind, within)), line_further text (end + 1) at (omega (arith, behind)), same)))
      (λ (below : at ≤ end). below) (cases_lt end at)

  pub column : BeginsLine text start → (at : ℕ) → at ≤ length text → line_at text at ≡ line_at text start → IsColumn text start at
  column begins at within same =
      let above : start ≤ at =
      ⊎_elim (λ (before : at < start). absurd (omega (arith, before_begin text start at low begins before, same)))
      (λ (above : start ≤ at). above) (cases_lt at start) in
      record { behind = above; col = ap (λ n. n + 1) (front_length begins at above (on_this at within same)) }

-- ---- what is left

-- the lines from an offset on are some
pub split_some : (text : List ℕ) (start : ℕ) → start ≤ length text
    → (line : List ℕ) × (rest : List (List ℕ)) × (slice_split is_newline (drop start text) ≡ line ∷ rest)
split_some text start low =
    let end = line_end text start in
    let line = take (end - start) (drop start text) in
    ⊎_elim (λ (inside : end < length text).
    (line, slice_split is_newline (drop (end + 1) text), next_line text start end low refl inside))
    (λ (at_end : length text ≤ end).
    (line, [], last_line text start end low refl (omega (arith, at_end, end_within text start end low refl))))
    (cases_lt end (length text))

-- the line at hand is first of those that are left
pub first_left : (text : List ℕ) (start end : ℕ) → start ≤ length text → end ≡ line_end text start → (marked : Bool)
    → (start < length text) ⊎ ((start ≡ length text) × IsTrue marked)
    → lines_from marked text start ≡ take (end - start) (drop start text) ∷ lines_from marked text (end + 1)
first_left text start end low is marked here =
    let line = take (end - start) (drop start text) in
    let within = end_within text start end low is in
    lines_inside marked text start low
    ∙ ⊎_elim (λ (inside : end < length text).
    let next = split_some text (end + 1) (omega (arith, inside)) in
    ap (counted marked) (next_line text start end low is inside)
    ∙ counted_more marked line next.0 next.1 (slice_split is_newline (drop (end + 1) text)) next.2
    ∙ sym (ap (λ l. line ∷ l) (lines_inside marked text (end + 1) (omega (arith, inside)))))
    (λ (at_end : length text ≤ end).
    let ends : end ≡ length text = omega (arith, at_end, within) in
    ap (counted marked) (last_line text start end low is ends) ∙ counted_one marked line (counts line ends)
    ∙ sym (ap (λ l. line ∷ l) (lines_outside marked text (end + 1) (omega (arith, ends)))))
    (cases_lt end (length text))
  where
    counts : (line : List ℕ) → end ≡ length text → (marked || nat_lt 0 (length (take (end - start) (drop start text)))) ≡ true
    counts line ends = ⊎_elim (λ (inside : start < length text).
        filled marked (length (take (end - start) (drop start text))) (omega (arith, line_length text start end low is, ends, inside)))
        (λ (there : (start ≡ length text) × IsTrue marked). or_marked marked _ there.1) here

-- no line is left
pub none_left : (text : List ℕ) (start : ℕ) (marked : Bool) → ¬ ((start < length text) ⊎ ((start ≡ length text) × IsTrue marked))
    → lines_from marked text start ≡ []
none_left text start true none =
    ⊎_elim (λ (behind : length text < start). lines_outside true text start behind)
    (λ (low : start ≤ length text). absurd (⊎_elim (λ (inside : start < length text). none (inl inside))
    (λ (high : length text ≤ start). none (inr (omega (arith, low, high), is_true))) (cases_lt start (length text))))
    (cases_lt (length text) start)
  where
    is_true : IsTrue true
    is_true = refl
none_left text start false none =
    ⊎_elim (λ (behind : length text < start). lines_outside false text start behind)
    (λ (low : start ≤ length text). ⊎_elim (λ (inside : start < length text). absurd (none (inl inside)))
    (λ (high : length text ≤ start).
    let end = line_end text start in
    let above = end_above text start end low refl in
    let ends : end ≡ length text = omega (arith, high, above, end_within text start end low refl) in
    lines_inside false text start low ∙ ap (counted false) (last_line text start end low refl ends)
    ∙ counted_none (take (end - start) (drop start text)) (omega (arith, line_length text start end low refl, ends, high)))
    (cases_lt start (length text)))
    (cases_lt (length text) start)
