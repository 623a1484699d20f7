-- What is answered of the check file that is made from an output, and the steps by which it is made.
-- Own rule: a bad lead is told before a line that is too long, and that before a file that would be too large. What the file is stands below,
-- where it is proved to accept its output alone.
use Rattle.std.specs.Prelude.{◌≡◌, ℕ, ◌==◌, ◌||◌, nat_lt, Bool, if◌then◌else◌, List, [], ◌∷◌, ◌++◌, codes, length, map, Option, None, Some, Result, Ok, Err}
use Rattle.std.specs.Borrow.{Bor}
use Rattle.std.specs.List.{position_from, slice_split}
use Rattle.std.specs.Option.{option_map_or}
use Rattle.tt_base.specs.Place.{is_newline}
use Rattle.file_laws.specs.Lead.{is_bad}
use Rattle.file_laws.specs.Made.{canonical_lines, is_too_long, long_line, made_file, next_of}
use Rattle.quote_laws.specs.Quote.{body_of}
use Rattle.make_checks.specs.declared.fault.MakeFault.{MakeFault}
use Rattle.make_checks.specs.declared.fault.MakeFault.TheVariants.{BadLead, LineTooLong, TooLarge}

-- a byte before a text that ends in no newline
abbrev pub before_trimmed : ℕ → List ℕ → List ℕ
before_trimmed byte [] = if is_newline byte then [] else byte ∷ []
before_trimmed byte (next ∷ rest) = byte ∷ next ∷ rest

-- a text without the newlines at its end
abbrev pub trimmed : List ℕ → List ℕ
trimmed [] = []
trimmed (byte ∷ rest) = before_trimmed byte (trimmed rest)

-- the lines of a text that doesn't end in a newline, of which the empty one has none
abbrev pub lines_in : List ℕ → List (List ℕ)
lines_in [] = []
lines_in (byte ∷ text) = slice_split is_newline (byte ∷ text)

-- the lines behind one
abbrev pub lines_behind : Option (Bor (List ℕ)) → List (List ℕ)
lines_behind rest = option_map_or (λ lines. slice_split is_newline lines.now) rest []

-- the directives that ask for lines, of which the first stands in front of all
abbrev pub asking : List (List ℕ) → List (List ℕ)
asking [] = []
asking (first ∷ lines) = (codes "CHECK: " ++ body_of first) ∷ map next_of lines

-- ---- what stands in its way

-- no body of these lines would be too long, from whichever number they count
abbrev pub NoneIsLong : List (List ℕ) → Type 0
NoneIsLong lines = (number : ℕ) → position_from is_too_long number lines ≡ None

-- whether a byte isn't written as it is
abbrev pub is_quoted : ℕ → Bool
is_quoted byte = byte == 91 || byte == 123

-- whether a check file would be too large
abbrev pub is_too_large : List ℕ → Bool
is_too_large text = nat_lt 16777216 (length text)

abbrev pub unless_large : List ℕ → Result (List ℕ) MakeFault
unless_large text = if is_too_large text then Err TooLarge else Ok text

abbrev pub unless_long : Option ℕ → List ℕ → Result (List ℕ) MakeFault
unless_long (Some number) text = Err (LineTooLong number)
unless_long None text = unless_large text

-- ---- the answers

-- what is kept of an old check file, and behind it the one that an output makes
abbrev pub refreshed : List ℕ → List ℕ → List ℕ → Result (List ℕ) MakeFault
refreshed old output lead =
    if is_bad lead then Err BadLead
    else unless_long (long_line (canonical_lines output)) (made_file old output lead)

abbrev pub made_checks : List ℕ → List ℕ → Result (List ℕ) MakeFault
made_checks output lead = refreshed [] output lead
