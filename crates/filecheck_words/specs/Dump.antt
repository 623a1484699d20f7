-- The annotated input that the words ask for.
-- After LLVM Command Guide, FileCheck, --dump-input, --dump-input-context and --dump-input-filter. Own rules: there is none unless it
-- is asked for, which values there are, and that with `fail` the lines with marks are shown and those near them, with `always` all.
use Rattle.std.specs.Prelude.{ℕ, Bool, true, false, nat_lt, if◌then◌else◌, List, codes, Option, Some, None}
use Rattle.std.specs.Str.{bytes_eq}
use Rattle.opt_words.specs.Number.{decimal}
use Rattle.opt_words.specs.Reading.{last}
use Rattle.opt_words.specs.Step.{value_of}
use Rattle.opt_words.specs.declared.fault.WordFault.TheVariants.{UnwantedValue}
use Rattle.opt_words.specs.declared.step.Given.{Given}
use Rattle.filecheck_words.specs.Fault.{faulty}
use Rattle.filecheck_words.specs.Given.{named_at}
use Rattle.filecheck_words.specs.declared.dumping.Dump.{Dump}
use Rattle.filecheck_words.specs.declared.dumping.When.{When}
use Rattle.filecheck_words.specs.declared.dumping.When.TheVariants.{Never, Fail, Always}
use Rattle.filecheck_words.specs.declared.fault.WordsFault.{WordsFault}

-- ---- values

-- when there is one, by the value of --dump-input
abbrev pub when_by : List ℕ → Option When
when_by value =
    if bytes_eq value (codes "never") then Some Never
    else if bytes_eq value (codes "fail") then Some Fail
    else if bytes_eq value (codes "always") then Some Always
    else None

-- whether it has all lines, by the value of --dump-input-filter
abbrev pub all_by : List ℕ → Option Bool
all_by value =
    if bytes_eq value (codes "all") then Some true
    else if bytes_eq value (codes "error") then Some false
    else None

-- ---- what is refused

abbrev pub unless_some : {A : Type 0} → Given → Option A → Option Given
unless_some given (Some value) = None
unless_some given None = Some given

-- what is given of an option, where that is no value of it
abbrev pub unwanted : {A : Type 0} → (List ℕ → Option A) → List (List ℕ) → Option Given → Option Given
unwanted value_by words None = None
unwanted value_by words (Some given) = unless_some given (value_by (value_of words given))

-- the one of two that stands first in the words
abbrev pub earlier : Option Given → Option Given → Option Given
earlier None other = other
earlier (Some one) None = Some one
earlier (Some one) (Some other) = Some (if nat_lt other.word one.word then other else one)

abbrev pub fault_by : List (List ℕ) → Option Given → Option WordsFault
fault_by words None = None
fault_by words (Some given) = Some (faulty words (UnwantedValue (named_at given)))

-- what is wrong with the first value that is none, by what is given of --dump-input and its filter
abbrev pub dump_fault : List (List ℕ) → Option Given → Option Given → Option WordsFault
dump_fault words when filter = fault_by words (earlier (unwanted when_by words when) (unwanted all_by words filter))

-- ---- what is asked for

abbrev pub or_default : {A : Type 0} → A → Option A → A
or_default default None = default
or_default default (Some value) = value

-- the value of an option, or another where it isn't given
abbrev pub chosen : {A : Type 0} → (List ℕ → Option A) → A → List (List ℕ) → Option Given → A
chosen value_by default words None = default
chosen value_by default words (Some given) = or_default default (value_by (value_of words given))

abbrev pub is_always : When → Bool
is_always Never = false
is_always Fail = false
is_always Always = true

-- what is asked for by what is given of --dump-input, its filter and its context
abbrev pub dump_of : List (List ℕ) → Option Given → Option Given → Option Given → Dump
dump_of words when filter context = record {
  when = chosen when_by Never words when;
  all = chosen all_by (is_always (chosen when_by Never words when)) words filter;
  context = chosen decimal 5 words context;
}

abbrev pub dump_asked : List (List ℕ) → List Given → Dump
dump_asked words all = dump_of words (last 9 all) (last 15 all) (last 14 all)
