-- The value of an EMPTY's search is the least newline behind which a line is empty.
use Rattle.std.proofs.Common.{◌≡◌, ℕ, ◌+◌, ◌-◌, ◌<◌, ◌≤◌, if◌then◌else◌, Bool, true, false, Option, None, Some, List, [], ◌∷◌, length, get_or, take, drop, refl, sym, ap, subst, arith, ⊎_elim}
use Rattle.std.proofs.lemmas.Bool.{cases_lt}
use Rattle.std.proofs.lemmas.Bool.Decides.{nat_tests}
use Rattle.tt_base.specs.Occurrence.{IsFirstIn, first_from, first_in}
use Rattle.check_group.proofs.EmptyLemmas.{least_last, least_none, least_pair}
use Rattle.check_group.specs.Lines.{IsEmptyLine, ends_line, or_last}
use Rattle.made_laws.proofs.FirstLemmas.{first_is_in}
use Rattle.made_laws.specs.Made.{EmptyLinesAreLeast}

abbrev two : List ℕ
two = 10 ∷ 10 ∷ []

last_by : (text : List ℕ) (from : ℕ) → IsFirstIn text two from (length text) None → (test : Bool) → ends_line text from ≡ test
    → IsEmptyLine text from (if test then Some (length text - 1) else None)
last_by text from none true ends =
    let some : from < length text = grind (arith, nat_tests, ends) in
    let newline : get_or text (length text - 1) 0 ≡ 10 = grind (arith, nat_tests, ends) in
    least_last text from none some newline
last_by text from none false ends =
    least_none text from none (λ some newline. grind (arith, nat_tests, ends, some, newline))

least_by : (text : List ℕ) (from : ℕ) (found : Option ℕ) → IsFirstIn text two from (length text) found
    → IsEmptyLine text from (or_last text from found)
least_by text from (Some at) first = least_pair text from at first
least_by text from None none = last_by text from none (ends_line text from) refl

-- behind the end of a text nothing is found
none_behind : (text : List ℕ) (from : ℕ) → length text < from → first_in text two from (length text) ≡ None
unfolding first_from
none_behind text from behind =
    let none : length text - from ≡ 0 = omega (arith, behind) in
    ap (λ n. first_from two from (take n (drop from text))) none

nowhere_behind : (text : List ℕ) (from : ℕ) → length text < from → IsFirstIn text two from (length text) None
nowhere_behind text from behind = λ at low high stands. absurd (omega (arith, behind, low, high))

pub empty_lines_are_least : EmptyLinesAreLeast
empty_lines_are_least text from =
    ⊎_elim (λ (behind : length text < from).
    least_by text from (first_in text two from (length text))
    (subst (IsFirstIn text two from (length text)) (sym (none_behind text from behind)) (nowhere_behind text from behind)))
    (λ (low : from ≤ length text).
    least_by text from (first_in text two from (length text))
    (first_is_in text two (length text) (omega arith) (take (length text - from) (drop from text)) from low refl))
    (cases_lt (length text) from)
