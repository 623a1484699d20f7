-- What the words ask for, where a check file is to be made.
-- Own rules: --make-checks makes one from the input, and --refresh puts what is made in the place of the directives of another;
-- --make-lead is what stands before each directive. Nothing else goes with them but where the input is, and that it may be empty.
use Rattle.std.specs.Prelude.{◌≡◌, ⊤, ℕ, Bool, true, ◌==◌, ◌&&◌, ◌||◌, not, nat_le, nat_lt, if◌then◌else◌, List, [], Option, Some, None, Result, Ok, Err}
use Rattle.std.specs.List.{list_all}
use Rattle.std.specs.Str.{is_utf8}
use Rattle.opt_words.specs.Reading.{last}
use Rattle.opt_words.specs.Step.{value_of}
use Rattle.opt_words.specs.declared.step.Given.{Given}
use Rattle.filecheck_words.specs.Checking.{IsNamed, file_name, input_of, is_given}
use Rattle.filecheck_words.specs.Fault.{◌>>=◌}
use Rattle.filecheck_words.specs.declared.checking.Input.{Input}
use Rattle.filecheck_words.specs.declared.fault.WordsFault.{WordsFault}
use Rattle.filecheck_words.specs.declared.fault.WordsFault.TheVariants.{Misfit}
use Rattle.filecheck_words.specs.declared.making.Making.{Making}

-- whether an option says what is made
abbrev pub is_making : List Given → Bool
is_making all = is_given 16 all || is_given 17 all || is_given 18 all

-- whether an option goes with a check file that is made
abbrev pub goes_with : Given → Bool
goes_with given = given.row == 3 || given.row == 5 || (nat_le 16 given.row && nat_lt given.row 19)

-- whether what is given fits together: one of --make-checks and --refresh, and what goes with them
abbrev pub fits : List Given → Bool
fits all = (if is_given 16 all then not (is_given 18 all) else is_given 18 all) && list_all goes_with all

-- the check file that is refreshed
abbrev pub as_old : Result (List ℕ) WordsFault → Result (Option (List ℕ)) WordsFault
as_old (Ok name) = Ok (Some name)
as_old (Err fault) = Err fault

abbrev pub old_of : List (List ℕ) → Option Given → Result (Option (List ℕ)) WordsFault
old_of words None = Ok None
old_of words (Some given) = as_old (file_name (value_of words given))

-- what stands before each directive
abbrev pub lead_of : List (List ℕ) → Option Given → List ℕ
lead_of words None = []
lead_of words (Some given) = value_of words given

abbrev pub making_of : List (List ℕ) → List Given → Option (List ℕ) → Input → Making
making_of words all old input = record {
  old = old;
  lead = lead_of words (last 17 all);
  input = input;
  allow_empty = is_given 5 all;
}

-- what is asked for by what the words give, or the first refusal
abbrev pub making_with : List (List ℕ) → List Given → Result Making WordsFault
making_with words all = do
  old ← old_of words (last 18 all)
  input ← input_of words (last 3 all)
  Ok (making_of words all old input)

abbrev pub make_asked : List (List ℕ) → List Given → Result Making WordsFault
make_asked words all = if fits all then making_with words all else Err Misfit

-- the names of files are text
abbrev pub IsText : Option (List ℕ) → Type 0
IsText None = ⊤
IsText (Some name) = is_utf8 name ≡ true

pub record HasTextNames (making : Making) : Type 0 where
  pub old : IsText making.old
  pub input : IsNamed making.input
