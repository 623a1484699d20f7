-- In a dump of all lines each line stands behind its number.
-- Shown: the rows are those of the lines, each with its marks, and what stands before a line is as wide as the numbers are. By induction over
-- the lines. The hard one is `fits_width`: no number has more digits than the last one.
use Rattle.std.proofs.Common.{◌≡◌, ℕ, suc, ◌+◌, ◌-◌, ◌*◌, ◌/◌, ◌%◌, ◌^◌, ◌<◌, ◌≤◌, Bool, true, false, ◌||◌, List, [], ◌∷◌, ◌++◌, length, map, drop, replicate, refl, sym, ap, ◌∙◌, subst, arith, append_assoc, length-append}
use Rattle.std.specs.Fmt.{decimal}
use Rattle.std.specs.List.{flat_map}
use Rattle.std.proofs.Math.Nat.{pow-suc}
use Rattle.std.proofs.Math.Seq.{drop-append_seam}
use Rattle.std.proofs.lemmas.Fmt.{decimal_by_steps, length-decimal-le, decimal_nonempty}
use Rattle.std.proofs.lemmas.List.{length-replicate}
use Rattle.input_dump.proofs.StepLemmas.{none_off, shown_off}
use Rattle.input_dump.specs.Dump.{any_close, by_offset, full_row, is_shown, lines_of, mark_line, rows_from, width_of}
use Rattle.input_dump.specs.Laws.{AllLinesComeBack, Told, bytes_of, told_from}
use Rattle.input_dump.specs.Rows.{line_row, newline, number_field, right}
use Rattle.input_dump.specs.declared.marking.Mark.{Mark}

ten_more : (n power : ℕ) → n / 10 < power → n < power * 10
ten_more n power below = omega (arith, below)

-- a number is below ten to the count of its digits
fits_digits : (n : ℕ) → n < 2 ^ 64 → n < 10 ^ length (decimal n)
fits_digits = decimal_by_steps (λ n ds. n < 10 ^ length ds) (λ n small. small) more
  where
    more : (n : ℕ) (ds : List ℕ) → 10 ≤ n → n / 10 < 10 ^ length ds → n < 10 ^ length (ds ++ ((48 + n % 10) ∷ []))
    more n ds low below =
        let long : length (ds ++ ((48 + n % 10) ∷ [])) ≡ suc (length ds) = omega (arith, length-append ds ((48 + n % 10) ∷ [])) in
        let grown : 10 ^ length (ds ++ ((48 + n % 10) ∷ [])) ≡ 10 ^ length ds * 10 = ap (λ k. 10 ^ k) long ∙ pow-suc 10 (length ds) in
        subst (λ power. n < power) (sym grown) (ten_more n (10 ^ length ds) below)

-- no number has more digits than a later one
fits_width : (n count : ℕ) → n ≤ count → count < 2 ^ 64 → length (decimal n) ≤ length (decimal count)
fits_width n count low small =
    length-decimal-le (length (decimal count)) n (decimal_nonempty count small) (omega (arith, low, fits_digits count small)) (omega (arith, low, small))

field_length : (width number : ℕ) → length (decimal number) ≤ width → length (number_field width number) ≡ width + 2
field_length width number fits =
    let word : List ℕ = decimal number in
    let gap : ℕ = width - length word in
    let blanks : List ℕ = replicate gap 32 in
    let colon : List ℕ = 58 ∷ 32 ∷ [] in
    let long : length blanks ≡ gap = length-replicate gap 32 in
    let parts : length (right width word) ≡ length blanks + length word = length-append blanks word in
    let whole : length (right width word ++ colon) ≡ length (right width word) + length colon = length-append (right width word) colon in
    omega (arith, long, parts, whole, fits)

behind_field : (width number : ℕ) (line : List ℕ) → length (decimal number) ≤ width
    → drop (width + 2) (line_row width number line) ≡ line ++ newline
behind_field width number line fits =
    let field = number_field width number in
    ap (λ n. drop n (field ++ line ++ newline)) (sym (field_length width number fits))
    ∙ ap (drop (length field)) (append_assoc field line newline) ∙ drop-append_seam field (line ++ newline)

told_rows : (shown : ℕ → Bool) (width : ℕ) (text : List ℕ) (marks : List Mark) → ((n : ℕ) → shown n ≡ true) → (number : ℕ) (lines : List (List ℕ))
    → rows_from shown (full_row width text marks) width false number lines ≡ flat_map bytes_of (told_from width text marks number lines)
told_rows shown width text marks all number [] = none_off shown (full_row width text marks) width number false
told_rows shown width text marks all number (line ∷ lines) =
    shown_off shown (full_row width text marks) width number false line lines (all number)
    ∙ ap (λ l. full_row width text marks number line ++ l) (told_rows shown width text marks all (number + 1) lines)

told_lines : (width : ℕ) (text : List ℕ) (marks : List Mark) (count number : ℕ) (lines : List (List ℕ))
    → ((n : ℕ) → n ≤ count → length (decimal n) ≤ width) → number + length lines ≤ count + 1
    → map (λ one. drop (width + 2) one.row) (told_from width text marks number lines) ≡ map (λ line. line ++ newline) lines
told_lines width text marks count number [] fits within = refl
told_lines width text marks count number (line ∷ lines) fits within =
    ap (λ l. l ∷ map (λ (one : Told). drop (width + 2) one.row) (told_from width text marks (number + 1) lines))
    (behind_field width number line (fits number (omega (arith, within))))
    ∙ ap (λ l. (line ++ newline) ∷ l) (told_lines width text marks count (number + 1) lines fits (omega (arith, within)))

or_all : (all other : Bool) → all ≡ true → (all || other) ≡ true
or_all all other is = ap (λ b. b || other) is

pub all_lines_come_back : AllLinesComeBack
all_lines_come_back text marks shown all small =
    let count = length (lines_of text marks) in
    let width = width_of count in
    let order = by_offset (length text) marks in
    let marked = map (mark_line text) order in
    record {
      told = told_from width text order 1 (lines_of text marks);
      whole = told_rows (is_shown shown marked) width text order (λ n. or_all shown.all (any_close shown.context n marked) all) 1 (lines_of text marks);
      lines = told_lines width text order count 1 (lines_of text marks)
          (λ n low. let fits : length (decimal n) ≤ length (decimal count) = fits_width n count low small in omega (arith, fits)) (omega arith);
    }
