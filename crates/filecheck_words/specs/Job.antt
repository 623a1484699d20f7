-- What the words of the command line ask for, or the first refusal: of the words by the table, of the values of --dump-input and its
-- filter, of options that don't fit together, and then as in Checking.antt. Own rules: this order, and --generate.
use Rattle.std.specs.Prelude.{◌≤◌, ℕ, ◌==◌, ◌&&◌, nat_le, if◌then◌else◌, List, length, Option, Some, None, Result, Ok, Err}
use Rattle.opt_words.specs.Number.{decimal}
use Rattle.opt_words.specs.Reading.{last}
use Rattle.opt_words.specs.Step.{value_of}
use Rattle.opt_words.specs.declared.fault.WordFault.TheVariants.{BadNumber}
use Rattle.opt_words.specs.declared.step.Given.{Given}
use Rattle.filecheck_words.specs.Checking.{HasNames, checking}
use Rattle.filecheck_words.specs.Dump.{dump_fault}
use Rattle.filecheck_words.specs.Fault.{◌>>=◌, faulty, unless}
use Rattle.filecheck_words.specs.Given.{given_by, named_at}
use Rattle.filecheck_words.specs.Making.{HasTextNames, is_making, make_asked}
use Rattle.filecheck_words.specs.declared.checking.Asked.{Asked}
use Rattle.filecheck_words.specs.declared.fault.WordsFault.{WordsFault}
use Rattle.filecheck_words.specs.declared.fault.WordsFault.TheVariants.{Misfit}
use Rattle.filecheck_words.specs.declared.job.Job.{Job}
use Rattle.filecheck_words.specs.declared.job.Job.TheVariants.{Check, Generate, Make}
use Rattle.filecheck_words.specs.declared.making.Making.{Making}

-- so many lines are generated, where --generate takes the number
abbrev pub bad_number : List (List ℕ) → Given → Result Job WordsFault
bad_number words given = Err (faulty words (BadNumber (named_at given)))

abbrev pub number_of : List (List ℕ) → Given → Option ℕ → Result Job WordsFault
number_of words given None = bad_number words given
number_of words given (Some n) = if nat_le 1 n && nat_le n 20000 then Ok (Generate n) else bad_number words given

-- nothing else is given beside --generate
abbrev pub generated : List (List ℕ) → ℕ → Given → Result Job WordsFault
generated words count given =
    if count == 1 then number_of words given (decimal (value_of words given)) else Err Misfit

abbrev pub as_check : Result Asked WordsFault → Result Job WordsFault
as_check (Ok asked) = Ok (Check asked)
as_check (Err fault) = Err fault

abbrev pub as_make : Result Making WordsFault → Result Job WordsFault
as_make (Ok making) = Ok (Make making)
as_make (Err fault) = Err fault

-- the job of what the words give, without --generate
abbrev pub job_of : List (List ℕ) → List Given → Result Job WordsFault
job_of words all = if is_making all then as_make (make_asked words all) else as_check (checking words all)

-- the job of what the words give, where this is the one value of --generate, if there is one
abbrev pub job_beside : List (List ℕ) → List Given → Option Given → Result Job WordsFault
job_beside words all (Some given) = generated words (length all) given
job_beside words all None = job_of words all

-- what the words ask for
abbrev pub asked_by : List (List ℕ) → Result Job WordsFault
asked_by words = do
  all ← given_by words
  unless (dump_fault words (last 9 all) (last 15 all)) (job_beside words all (last 10 all))

-- the files that are asked for have names, and no more lines than these are generated
abbrev pub IsSound : Job → Type 0
IsSound (Check asked) = HasNames asked
IsSound (Generate n) = (1 ≤ n) × (n ≤ 20000)
IsSound (Make making) = HasTextNames making
