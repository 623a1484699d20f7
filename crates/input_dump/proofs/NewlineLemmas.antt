-- Newlines before an offset, and the line that it lies in.
-- Shown: behind the last newline before an offset its line begins (`last_begins`), and without one the text does (`text_begins`); before a line
-- there is the one with the number before (`line_before`). By counting newlines. The hard one is `same_behind`, where none stands between.
use Rattle.std.proofs.Common.{◌≡◌, ℕ, zero, suc, ◌+◌, ◌-◌, ◌<◌, ◌≤◌, Bool, true, false, Some, None, List, length, get_or, take, drop, refl, sym, ap, ◌∙◌, arith, take_all, length-drop}
use Rattle.std.proofs.lemmas.List.{get_or-drop, get_or-take, length-take, length-take-le}
use Rattle.std.proofs.lemmas.List.Sums.{count_by-le-length, count_by_more_no, count_by_more_yes}
use Rattle.std.specs.List.{count_by}
use Rattle.memchr.specs.Find.{IsLastByte}
use Rattle.tt_base.specs.Place.{is_newline}
use Rattle.input_dump.proofs.LineLemmas.{line_further}
use Rattle.input_dump.specs.Dump.{line_at}
use Rattle.input_dump.specs.Follow.{BeginsLine}

-- a byte that isn't one
no_newline_by : (byte : ℕ) → (is_newline byte ≡ true → ⊥) → is_newline byte ≡ false
no_newline_by byte none = by (is_newline byte) none
  where
    by : (b : Bool) → (b ≡ true → ⊥) → b ≡ false
    by true none = absurd (none refl)
    by false none = refl

-- no newline stands in a front
none_in : (xs : List ℕ) (k : ℕ) → k ≤ length xs → ((i : ℕ) → i < k → is_newline (get_or xs i 0) ≡ false)
    → count_by is_newline (take k xs) ≡ 0
none_in xs zero within none = refl
none_in xs (suc k) within none =
    let next : suc k ≡ k + 1 = omega arith in
    ap (λ n. count_by is_newline (take n xs)) next
    ∙ count_by_more_no is_newline xs k 0 (omega (arith, within)) (none k (omega arith))
    ∙ none_in xs k (omega (arith, within)) (λ i low. none i (omega (arith, low)))

pub line_small : (text : List ℕ) (at : ℕ) → line_at text at ≤ length text + 1
line_small text at = omega (arith, count_by-le-length is_newline (take at text), length-take at text)

-- a line behind the first one doesn't begin with the text
pub first_begins : (text : List ℕ) (from : ℕ) → 1 < line_at text from → 0 < from
first_begins text zero more = absurd (omega (arith, more))
first_begins text (suc from) more = omega arith

-- a line begins behind the one with the number before
pub line_before : (text : List ℕ) (from : ℕ) → BeginsLine text from → 0 < from → from ≤ length text
    → line_at text (from - 1) + 1 ≡ line_at text from
line_before text from begins some within =
    let there : from - 1 + 1 ≡ from = omega (arith, some) in
    let more : count_by is_newline (take (from - 1 + 1) text) ≡ count_by is_newline (take (from - 1) text) + 1 =
    count_by_more_yes is_newline text (from - 1) 0 (omega (arith, some, within)) (begins some) in
    let same = ap (λ n. count_by is_newline (take n text)) there in
    omega (arith, sym same ∙ more)

module _ (text : List ℕ) (at : ℕ) (within : at ≤ length text) where
  front_length : length (take at text) ≡ at
  front_length = length-take-le at text within

  -- where no newline stands between
  same_behind : (from : ℕ) → from ≤ at
      → ((i : ℕ) → from ≤ i → i < length (take at text) → is_newline (get_or (take at text) i 0) ≡ true → ⊥)
      → line_at text from ≡ line_at text at
  same_behind from low none =
      let rest = drop from text in
      let count = at - from in
      let counted : count_by is_newline (take count rest) ≡ 0 =
      none_in rest count (omega (arith, within, low, length-drop from text))
      (λ i below. let inside : from + i < at = omega (arith, low, below) in
      ap is_newline (get_or-drop from text i 0) ∙ ap is_newline (sym (get_or-take at text (from + i) 0 inside))
      ∙ no_newline_by _ (none (from + i) (omega arith) (omega (arith, inside, front_length)))) in
      omega (arith, line_further text from at low, counted)

  -- behind the last newline
  pub last_begins : (k : ℕ) → IsLastByte is_newline (take at text) (Some k)
      → BeginsLine text (k + 1) × (line_at text (k + 1) ≡ line_at text at) × (k + 1 ≤ at)
  last_begins k found =
      let inside : k < at = omega (arith, found.0.high, front_length) in
      let there : k + 1 - 1 ≡ k = omega arith in (
        λ some. ap (λ n. is_newline (get_or text n 0)) there ∙ ap is_newline (sym (get_or-take at text k 0 inside)) ∙ found.1,
        same_behind (k + 1) (omega (arith, inside)) (λ i low high. found.0.after i (omega (arith, low)) high),
        omega (arith, inside),
      )

  -- and where there is none
  pub text_begins : IsLastByte is_newline (take at text) None → line_at text 0 ≡ line_at text at
  text_begins none = same_behind 0 (omega arith) (λ i low high. none i (omega arith) high)
