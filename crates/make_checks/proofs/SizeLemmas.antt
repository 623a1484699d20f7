-- How long a check file is at most.
-- Shown: each line of an output takes at most the words, the lead and what stands for it (`made_size`), and all of these together at most so much
-- for each newline, for each byte and for each that is quoted (`split_size`). By induction over lines and over the text. The hard one is
-- `byte_size`, where a byte ends a line or goes onto the first.
use Rattle.std.proofs.Common.{◌≡◌, ◌∙◌, ℕ, ◌+◌, ◌*◌, ◌<◌, ◌≤◌, ◌==◌, Bool, true, false, cond, if◌then◌else◌, List, [], ◌∷◌, ◌++◌, codes, length, map, refl, ap, arith, length-append, mul-add, mul-one, mul-zero}
use Rattle.std.proofs.lemmas.List.Splits.{slice_split-cons_yes, slice_split-cons_no}
use Rattle.std.specs.List.{count_by, flat_map, onto_first, slice_split}
use Rattle.byte_counts.proofs.CountLemmas.{count-append}
use Rattle.byte_counts.specs.Counts.{is_byte}
use Rattle.file_laws.specs.Made.{made_line, made_text, next_of}
use Rattle.make_checks.proofs.DirectiveLemmas.{first_not, line_length}
use Rattle.make_checks.proofs.LineLemmas.{some_lines}
use Rattle.make_checks.proofs.QuoteLemmas.{body_length}
use Rattle.make_checks.specs.Directives.{last_not}
use Rattle.make_checks.specs.Made.{lines_in}
use Rattle.quote_laws.specs.Quote.{body_of, quote, quote_byte}
use Rattle.tt_base.specs.Place.{is_newline}

-- lines, where each takes so much beside what stands for it
abbrev cost : ℕ → List (List ℕ) → ℕ
cost each [] = 0
cost each (line ∷ lines) = (each + length (quote line)) + cost each lines

next_size : (lead line : List ℕ) → length (made_line lead (next_of line)) ≤ (length lead + 23) + length (quote line)
next_size lead [] =
    let words : length (codes "CHECK-EMPTY:") ≡ 12 = refl in
    omega (arith, words, line_length lead (codes "CHECK-EMPTY:"))
next_size lead (b ∷ line) =
    let words : length (codes "CHECK-NEXT: ") ≡ 12 = refl in
    let body = body_of (b ∷ line) in
    omega (arith, words, line_length lead (codes "CHECK-NEXT: " ++ body), length-append (codes "CHECK-NEXT: ") body, body_length (b ∷ line))

first_size : (lead line : List ℕ) → length (made_line lead (codes "CHECK: " ++ body_of line)) ≤ (length lead + 23) + length (quote line)
first_size lead line =
    let words : length (codes "CHECK: ") ≡ 7 = refl in
    omega (arith, words, line_length lead (codes "CHECK: " ++ body_of line), length-append (codes "CHECK: ") (body_of line), body_length line)

last_size : (lead : List ℕ) → length (flat_map (made_line lead) (last_not ∷ [])) ≡ length lead + 17
last_size lead =
    let words : length last_not ≡ 16 = refl in
    omega (arith, words, line_length lead last_not, length-append (made_line lead last_not) [])

rest_size : (lead : List ℕ) (lines : List (List ℕ))
    → length (flat_map (made_line lead) (map next_of lines ++ last_not ∷ [])) ≤ cost (length lead + 23) lines + (length lead + 17)
rest_size lead [] = omega (arith, last_size lead)
rest_size lead (line ∷ lines) =
    let rest = flat_map (made_line lead) (map next_of lines ++ last_not ∷ []) in
    omega (arith, length-append (made_line lead (next_of line)) rest, next_size lead line, rest_size lead lines)

made_size : (lead : List ℕ) (lines : List (List ℕ)) → length (made_text lead lines) ≤ cost (length lead + 23) lines + ((length lead + 23) + (length lead + 23))
made_size lead [] = omega (arith, last_size lead)
made_size lead (first ∷ lines) =
    let words : length first_not ≡ 28 = refl in
    let one = made_line lead (codes "CHECK: " ++ body_of first) in
    let rest = flat_map (made_line lead) (map next_of lines ++ last_not ∷ []) in
    omega (
      arith,
      words,
      line_length lead first_not,
      length-append (made_line lead first_not) (one ++ rest),
      length-append one rest,
      first_size lead first,
      rest_size lead lines,
    )

-- ---- over the text

abbrev pub times : ℕ → List ℕ → ℕ
times byte text = count_by (is_byte byte) text

-- a byte before a text
times_before : (byte b : ℕ) (text : List ℕ) → times byte (b ∷ text) ≡ cond (b == byte) 1 0 + times byte text
times_before byte b text =
    let first : times byte (b ∷ []) ≡ 0 + cond (b == byte) 1 0 = refl in
    omega (arith, count-append byte (b ∷ []) text, first)

quoted_size : (b : ℕ) → length (quote_byte b) ≤ 1 + 6 * (cond (b == 91) 1 0 + cond (b == 123) 1 0)
quoted_size b = by (b == 91) (b == 123)
  where
    by : (x y : Bool) → length (if x then codes "{{\\[}}" else if y then codes "{{[{]}}" else b ∷ []) ≤ 1 + 6 * (cond x 1 0 + cond y 1 0)
    by true true = omega arith
    by true false = omega arith
    by false true = omega arith
    by false false = omega arith

onto_size : (each b : ℕ) (lines : List (List ℕ)) → 0 < length lines
    → cost each (onto_first b lines) ≡ length (quote_byte b) + cost each lines
onto_size each b [] some = absurd (omega (arith, some))
onto_size each b (line ∷ lines) some = omega (arith, length-append (quote_byte b) (quote line))

-- what the lines of a text take at most
abbrev at_most : ℕ → List ℕ → ℕ
at_most each text = (each + each * times 10 text) + (length text + 6 * (times 91 text + times 123 text))

split_size : (each : ℕ) (text : List ℕ) → cost each (slice_split is_newline text) ≤ at_most each text
split_size each [] = omega (arith, mul-zero each)
split_size each (b ∷ text) = byte_size (is_newline b) refl (split_size each text)
  where
    brackets : times 91 (b ∷ text) ≡ cond (b == 91) 1 0 + times 91 text
    brackets = times_before 91 b text

    braces : times 123 (b ∷ text) ≡ cond (b == 123) 1 0 + times 123 text
    braces = times_before 123 b text

    byte_size : (yes : Bool) → is_newline b ≡ yes → cost each (slice_split is_newline text) ≤ at_most each text
        → cost each (slice_split is_newline (b ∷ text)) ≤ at_most each (b ∷ text)
    byte_size true is rest =
        let lines : cost each (slice_split is_newline (b ∷ text)) ≡ (each + 0) + cost each (slice_split is_newline text) =
        ap (cost each) (slice_split-cons_yes is_newline b text is) in
        let product : each * times 10 (b ∷ text) ≡ each * 1 + each * times 10 text =
        ap (λ n. each * n) (times_before 10 b text) ∙ ap (λ x. each * (cond x 1 0 + times 10 text)) is ∙ mul-add each 1 (times 10 text) in
        omega (arith, lines, product, mul-one each, brackets, braces, rest)
    byte_size false is rest =
        let lines : cost each (slice_split is_newline (b ∷ text)) ≡ length (quote_byte b) + cost each (slice_split is_newline text) =
        ap (cost each) (slice_split-cons_no is_newline b text is) ∙ onto_size each b (slice_split is_newline text) (some_lines text) in
        let none : 0 + times 10 text ≡ times 10 text = omega arith in
        let product : each * times 10 (b ∷ text) ≡ each * times 10 text =
        ap (λ n. each * n) (times_before 10 b text) ∙ ap (λ x. each * (cond x 1 0 + times 10 text)) is ∙ ap (λ n. each * n) none in
        omega (arith, lines, product, brackets, braces, quoted_size b, rest)

lines_size : (each : ℕ) (text : List ℕ) → cost each (lines_in text) ≤ at_most each text
lines_size each [] = omega arith
lines_size each (b ∷ text) = split_size each (b ∷ text)

-- so all of it takes at most so much
pub made_at_most : (lead lines : List ℕ) → length (made_text lead (lines_in lines))
    ≤ (length lead + 23) * (times 10 lines + 3) + (length lines + 6 * (times 91 lines + times 123 lines))
made_at_most lead lines =
    let each = length lead + 23 in
    let product : each * (times 10 lines + 3) ≡ each * times 10 lines + each * 3 = mul-add each (times 10 lines) 3 in
    omega (arith, product, made_size lead (lines_in lines), lines_size each lines)
