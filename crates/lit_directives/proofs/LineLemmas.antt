-- Where a line ends, as `slice_split` has it.
use Rattle.std.proofs.Common.{◌≡◌, ℕ, ◌+◌, ◌-◌, ◌<◌, ◌≤◌, false, List, [], ◌∷◌, length, take, drop, take_all, drop-drop, length-drop, length-take-le, sym, ap, ◌∙◌, arith}
use Rattle.std.proofs.lemmas.List.Elements.{All-from_all_within}
use Rattle.std.proofs.lemmas.List.Splits.{slice_split_first, slice_split_none}
use Rattle.std.proofs.lemmas.List.Sums.{fails_before_first, prefix_len-le-length}
use Rattle.std.specs.List.{position_or_len, slice_split}
use Rattle.tt_base.specs.Place.{is_newline, line_end}

position_fits : (xs : List ℕ) → position_or_len is_newline xs ≤ length xs
position_fits xs = prefix_len-le-length _ xs

line_end_is : (text : List ℕ) (start : ℕ) → line_end text start ≡ start + position_or_len is_newline (drop start text)
line_end_is text start =
    ap (λ n. start + n) (length-take-le (position_or_len is_newline (drop start text)) (drop start text)
    (position_fits (drop start text)))

module _ (text : List ℕ) (start end : ℕ) (low : start ≤ length text) (is : end ≡ line_end text start) where
  pub end_above : start ≤ end
  end_above = omega (arith, line_end_is text start)

  pub end_within : end ≤ length text
  end_within = omega (arith, line_end_is text start, position_fits (drop start text), length-drop start text)

  -- the last line
  pub last_line : end ≡ length text → slice_split is_newline (drop start text) ≡ take (end - start) (drop start text) ∷ []
  last_line ends =
      let rest = drop start text in
      let n = position_or_len is_newline rest in
      let at_end : end ≡ start + n = is ∙ line_end_is text start in
      let whole : length rest ≡ n = omega (arith, length-drop start text) in
      let same : take (end - start) rest ≡ rest = take_all (end - start) rest (omega arith) in
      slice_split_none is_newline rest (All-from_all_within (λ x. is_newline x ≡ false) rest
      (λ k d low_k below. fails_before_first is_newline rest k d (omega arith)))
      ∙ ap (λ l. l ∷ []) (sym same)

  -- a line before others
  pub next_line : end < length text → slice_split is_newline (drop start text)
      ≡ take (end - start) (drop start text) ∷ slice_split is_newline (drop (end + 1) text)
  next_line inside =
      let rest = drop start text in
      let n = position_or_len is_newline rest in
      let at_end : end ≡ start + n = is ∙ line_end_is text start in
      let found : n < length rest = omega (arith, length-drop start text) in
      let count : n ≡ end - start = omega arith in
      let later : start + (n + 1) ≡ end + 1 = omega arith in
      slice_split_first is_newline rest 0 found
      ∙ ap (λ k. take k rest ∷ slice_split is_newline (drop (n + 1) rest)) count
      ∙ ap (λ l. take (end - start) rest ∷ slice_split is_newline l)
      (drop-drop (n + 1) start text ∙ ap (λ k. drop k text) later)
