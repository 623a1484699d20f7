-- The directives of an output, one by one.
-- Shown: the first of those that are left stands before those behind it; and the room that texts leave one behind the other.
-- The hard one is `all_some`, where the NOT in front stands before the first line.
use Rattle.std.proofs.Common.{◌≡◌, ℕ, ◌+◌, ◌<◌, ◌==◌, Bool, true, false, List, [], ◌∷◌, ◌++◌, codes, length, map, Option, None, Some, refl, sym, ap, ◌∙◌, arith, length-append}
use Rattle.std.proofs.lemmas.Bool.Decides.{nat_tests}
use Rattle.std.specs.List.{slice_split}
use Rattle.tt_base.specs.Place.{is_newline}
use Rattle.file_laws.specs.Made.{directives_of, made_line, next_of}
use Rattle.quote_laws.specs.Quote.{body_of}
use Rattle.make_checks.proofs.LineLemmas.{some_lines}
use Rattle.make_checks.specs.Directives.{LeavesRoom, last_not}
use Rattle.make_checks.specs.Made.{asking, lines_in}

abbrev pub first_not : List ℕ
first_not = codes "CHECK-NOT: {{.|[[:space:]]}}"

pub all_none : (text : List ℕ) (empty : Bool) → empty ≡ (length text == 0) → empty ≡ true → directives_of (lines_in text) ≡ last_not ∷ []
all_none [] empty is set = refl
all_none (b ∷ text) empty is set =
    let some : (length (b ∷ text) == 0) ≡ true = sym is ∙ set in let off : ⊥ = grind (arith, nat_tests, some) in absurd off

some_by : (lines : List (List ℕ)) → 0 < length lines → directives_of lines ≡ first_not ∷ (asking lines ++ last_not ∷ [])
some_by [] some = absurd (omega (arith, some))
some_by (first ∷ lines) some = refl

pub all_some : (text : List ℕ) (empty : Bool) → empty ≡ (length text == 0) → empty ≡ false
    → directives_of (lines_in text) ≡ first_not ∷ (asking (slice_split is_newline text) ++ last_not ∷ [])
all_some [] empty is set = cc
all_some (b ∷ text) empty is set = some_by (slice_split is_newline (b ∷ text)) (some_lines (b ∷ text))

-- a first line before what is left
pub first_left : (lines rest : List (List ℕ)) (line : List ℕ) → lines ≡ line ∷ rest
    → asking lines ++ last_not ∷ [] ≡ (codes "CHECK: " ++ body_of line) ∷ (map next_of rest ++ last_not ∷ [])
first_left lines rest line is = ap (λ l. asking l ++ last_not ∷ []) is

pub further_left : (lines rest : List (List ℕ)) (line : List ℕ) → lines ≡ line ∷ rest
    → map next_of lines ++ last_not ∷ [] ≡ next_of line ∷ (map next_of rest ++ last_not ∷ [])
further_left lines rest line is = ap (λ l. map next_of l ++ last_not ∷ []) is

-- ---- room

-- a text leaves what its rest leaves of the room that is left before it
pub room_left : (whole text : List ℕ) (room left : ℕ) (rest : Option ℕ) → room + length text ≡ left + length whole → LeavesRoom text left rest
    → LeavesRoom whole room rest
room_left whole text room left None even none = λ all. none (omega (arith, even, all))
room_left whole text room left (Some rest) even leaves = (omega (arith, even, leaves.0), omega (arith, even, leaves.0, leaves.1))

pub line_length : (lead text : List ℕ) → length (made_line lead text) ≡ (length lead + 1) + length text
line_length lead text = omega (arith, length-append lead text, length-append (lead ++ text) (10 ∷ []))
