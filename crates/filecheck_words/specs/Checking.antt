-- What the words ask for, where a check file is to be checked.
-- After LLVM Command Guide, FileCheck: its options, a check file, and an input file, which is standard input where it is
-- `-`. Own rules: which words are refused, and in which order.
use Rattle.std.specs.Prelude.{◌≡◌, ⊤, ℕ, Bool, true, false, ◌==◌, ◌&&◌, not, nat_lt, if◌then◌else◌, List, codes, Option, Some, None, Result, Ok, Err}
use Rattle.std.specs.Str.{bytes_eq, is_utf8}
use Rattle.opt_words.specs.Reading.{first, last, times}
use Rattle.opt_words.specs.Step.{value_of}
use Rattle.opt_words.specs.declared.step.Given.{Given}
use Rattle.filecheck_words.specs.Dump.{dump_asked}
use Rattle.filecheck_words.specs.Fault.{◌>>=◌}
use Rattle.filecheck_words.specs.Implicit.{patterns_of}
use Rattle.filecheck_words.specs.Prefixes.{held_prefixes}
use Rattle.filecheck_words.specs.Values.{values}
use Rattle.filecheck_words.specs.declared.checking.Asked.{Asked}
use Rattle.filecheck_words.specs.declared.checking.Input.{Input}
use Rattle.filecheck_words.specs.declared.checking.Input.TheVariants.{Standard, Named}
use Rattle.filecheck_words.specs.declared.fault.WordsFault.{WordsFault}
use Rattle.filecheck_words.specs.declared.fault.WordsFault.TheVariants.{NotOneFile, NotText}
use Rattle.filecheck_words.specs.declared.prefixes.ChosenPrefixes.{ChosenPrefixes}

-- ---- files

-- a value as the name of a file
abbrev pub file_name : List ℕ → Result (List ℕ) WordsFault
file_name value = if is_utf8 value then Ok value else Err NotText

-- the check file is the one plain word
abbrev pub one_file : List (List ℕ) → ℕ → Option Given → Result (List ℕ) WordsFault
one_file words plain None = Err NotOneFile
one_file words plain (Some given) = if plain == 1 then file_name (value_of words given) else Err NotOneFile

-- the input is standard input unless a file is named
abbrev pub as_input : Result (List ℕ) WordsFault → Result Input WordsFault
as_input (Ok name) = Ok (Named name)
as_input (Err fault) = Err fault

abbrev pub input_named : List ℕ → Result Input WordsFault
input_named value = if bytes_eq value (codes "-") then Ok Standard else as_input (file_name value)

abbrev pub input_of : List (List ℕ) → Option Given → Result Input WordsFault
input_of words None = Ok Standard
input_of words (Some given) = input_named (value_of words given)

-- ---- what is asked for

-- a switch is on where it is given, unless the last one says false
abbrev pub is_on : List (List ℕ) → Option Given → Bool
is_on words None = false
is_on words (Some given) = not (bytes_eq (value_of words given) (codes "false"))

-- whether a row is given
abbrev pub is_given : ℕ → List Given → Bool
is_given row all = nat_lt 0 (times row all)

-- whether the check file may have no directive: there is an implicit one, and no check prefix is given
abbrev pub may_lack : List Given → Bool
may_lack all = is_given 13 all && not (is_given 0 all) && not (is_given 1 all)

abbrev pub asked_of : List (List ℕ) → List Given → List ℕ → Input → ChosenPrefixes → List (List ℕ) → Asked
asked_of words all name input prefixes implicit = record {
  name = name;
  input = input;
  prefixes = prefixes;
  strict = is_given 4 all;
  allow_empty = is_given 5 all;
  allow_unused = is_on words (last 6 all);
  full_lines = is_given 11 all;
  fold = is_given 12 all;
  var_scope = is_given 7 all;
  may_lack = may_lack all;
  implicit = implicit;
  defines = values 8 words all;
  dump = dump_asked words all;
}

-- what is asked for by what the words give, or the first refusal
abbrev pub checking : List (List ℕ) → List Given → Result Asked WordsFault
checking words all = do
  name ← one_file words (times 19 all) (first 19 all)
  input ← input_of words (last 3 all)
  prefixes ← held_prefixes words all
  implicit ← patterns_of (is_given 4 all) (values 13 words all)
  Ok (asked_of words all name input prefixes implicit)

-- the names of files are text
abbrev pub IsNamed : Input → Type 0
IsNamed Standard = ⊤
IsNamed (Named name) = is_utf8 name ≡ true

pub record HasNames (asked : Asked) : Type 0 where
  pub check : is_utf8 asked.name ≡ true
  pub input : IsNamed asked.input
