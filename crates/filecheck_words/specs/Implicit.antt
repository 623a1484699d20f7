-- The patterns of --implicit-check-not.
-- After LLVM Command Guide, FileCheck, --implicit-check-not: each value is the pattern of a CHECK-NOT. Own rules: it is
-- canonical text without blanks at both ends, as the body of a directive is; one of blanks alone, or of more than a
-- line, is refused.
use Rattle.std.specs.Prelude.{◌≡◌, ◌≢◌, ℕ, Bool, false, ◌==◌, ◌||◌, List, [], All, map, Option, Some, None, Result, Ok, Err}
use Rattle.std.specs.List.{find, list_all, list_any}
use Rattle.check_lines.specs.Canonical.{canon, is_blank}
use Rattle.check_lines.specs.Suffix.{trimmed}
use Rattle.filecheck_words.specs.declared.fault.WordsFault.{WordsFault}
use Rattle.filecheck_words.specs.declared.fault.WordsFault.TheVariants.{BadImplicit}

abbrev pub is_newline : ℕ → Bool
is_newline byte = byte == 10

-- whether a value is no pattern
abbrev pub is_bad : List ℕ → Bool
is_bad value = list_all is_blank value || list_any is_newline value

-- the pattern of a value
abbrev pub pattern_of : Bool → List ℕ → List ℕ
pattern_of strict value = trimmed (canon strict value)

-- the patterns of values, or the first that is none
abbrev pub patterns_beside : Bool → List (List ℕ) → Option (List ℕ) → Result (List (List ℕ)) WordsFault
patterns_beside strict values None = Ok (map (pattern_of strict) values)
patterns_beside strict values (Some bad) = Err (BadImplicit bad)

abbrev pub patterns_of : Bool → List (List ℕ) → Result (List (List ℕ)) WordsFault
patterns_of strict values = patterns_beside strict values (find is_bad values)

-- Law: each pattern has something in it, on one line.
pub record IsLine (pattern : List ℕ) : Type 0 where
  pub some : pattern ≢ []
  pub one : list_any is_newline pattern ≡ false

abbrev pub PatternsAreLines : Type 0
PatternsAreLines =
    (strict : Bool) (values patterns : List (List ℕ)) → patterns_of strict values ≡ Ok patterns → All IsLine patterns
