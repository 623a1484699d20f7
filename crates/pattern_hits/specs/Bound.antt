-- What a match gives the names that its pattern defines.
-- After LLVM Command Guide, FileCheck, 'FileCheck String Substitution Blocks' and 'FileCheck Numeric Substitution Blocks'.
-- Own rules: a number out of range is told with its place; where letters match in either case a number is read in the case
-- of its format.
use Rattle.std.specs.Prelude.{ℕ, ◌-◌, ℤ, Bool, ◌||◌, ◌==◌, if◌then◌else◌, Option, Some, None, List, [], ◌∷◌, ◌++◌, map, take, drop, slice_get, Result, Ok, Err}
use Rattle.std.specs.Char.{to_ascii_lowercase, to_ascii_uppercase}
use Rattle.ere_tree.specs.declared.hit.Cap.{Cap}
use Rattle.num_base.specs.declared.format.Format.{Format}
use Rattle.num_base.specs.declared.format.FormatKind.{FormatKind}
use Rattle.num_base.specs.declared.format.FormatKind.TheVariants.{Unsigned, Signed, LowerHex, UpperHex}
use Rattle.num_spell.specs.Spelling.{spelled, valued}
use Rattle.pattern_instance.specs.declared.gift.Gift.{Gift}
use Rattle.pattern_instance.specs.declared.gift.Gift.TheVariants as gift
use Rattle.pattern_vars.specs.declared.binding.Binding.{Binding}
use Rattle.pattern_vars.specs.declared.binding.Binding.TheVariants as binding
use Rattle.tt_base.specs.Place.{span_of}
use Rattle.tt_base.specs.declared.place.Span.{Span}

-- a letter in the case of a kind's digits; `x` is in lower case in each kind
abbrev pub in_case : FormatKind → ℕ → ℕ
in_case Unsigned b = to_ascii_lowercase b
in_case Signed b = to_ascii_lowercase b
in_case LowerHex b = to_ascii_lowercase b
in_case UpperHex b = if b == 88 || b == 120 then 120 else to_ascii_uppercase b

-- a number's text as it is read
abbrev pub as_spelled : Bool → FormatKind → List ℕ → List ℕ
as_spelled fold kind text = if fold then map (in_case kind) text else text

-- the number that a text spells in a format, where that is a value
abbrev pub number_read : Bool → Format → List ℕ → Option ℤ
number_read fold format text = valued (spelled format (as_spelled fold format.kind text))

-- the part of a text that a group holds, which is there for each group of an instance that gives something
abbrev pub held : Option (Option Cap) → Cap
held (Some (Some cap)) = cap
held (Some None) = record { from = 0; to = 0 }
held None = record { from = 0; to = 0 }

-- the part that the group behind so many groups holds
abbrev pub cap_at : List (Option Cap) → ℕ → Cap
cap_at groups n = held (slice_get groups n)

abbrev pub span_at : List (Option Cap) → ℕ → Span
span_at groups n = span_of (cap_at groups n).from ((cap_at groups n).to - (cap_at groups n).from)

abbrev pub text_at : List ℕ → List (Option Cap) → ℕ → List ℕ
text_at text groups n = take ((cap_at groups n).to - (cap_at groups n).from) (drop (cap_at groups n).from text)

abbrev pub number_bound : List ℕ → Span → Option ℤ → Result Binding Span
number_bound name span (Some value) = Ok (binding.Number name value)
number_bound name span None = Err span

-- what one gift binds in a match, or the part that can't be read
abbrev pub bound_of : Bool → List ℕ → List (Option Cap) → Gift → Result Binding Span
bound_of fold text groups (gift.Text name n) = Ok (binding.Text name (text_at text groups n))
bound_of fold text groups (gift.Number name n format) =
    number_bound name (span_at groups n) (number_read fold format (text_at text groups n))
bound_of fold text groups (gift.Given name value) = Ok (binding.Number name value)

-- bindings behind others
abbrev pub behind_bound : List Binding → Result (List Binding) Span → Result (List Binding) Span
behind_bound fresh (Ok others) = Ok (fresh ++ others)
behind_bound fresh (Err span) = Err span

abbrev pub with_bound : Result Binding Span → Result (List Binding) Span → Result (List Binding) Span
with_bound (Err span) others = Err span
with_bound (Ok one) others = behind_bound (one ∷ []) others

-- what all gifts bind, in order of the pieces, or the part of the first number that can't be read
abbrev pub all_bound : Bool → List ℕ → List (Option Cap) → List Gift → Result (List Binding) Span
all_bound fold text groups [] = Ok []
all_bound fold text groups (one ∷ gifts) =
    with_bound (bound_of fold text groups one) (all_bound fold text groups gifts)
