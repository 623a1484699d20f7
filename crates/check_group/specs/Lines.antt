-- On which line a match stands.
-- After LLVM Command Guide, FileCheck: CHECK-NEXT, CHECK-SAME and CHECK-EMPTY. Own rules: the newlines are counted from the
-- end of the match before, and an EMPTY is an empty match behind the newline before an empty line, which may end the slice.
use Rattle.std.specs.Prelude.{◌≡◌, ◌⊎◌, ◌<◌, ◌≤◌, ℕ, ◌+◌, ◌-◌, ◌==◌, nat_lt, Bool, ◌&&◌, if◌then◌else◌, List, [], ◌∷◌, length, take, drop, count_by, slice_index, Option, Some, None, Result, Ok, Err}
use Rattle.tt_base.specs.Occurrence.{first_in}
use Rattle.tt_base.specs.Place.{is_newline, span_of}
use Rattle.check_group.specs.declared.answer.Met.{Met}
use Rattle.check_group.specs.declared.fault.FaultKind.{FaultKind}
use Rattle.check_group.specs.declared.fault.FaultKind.TheVariants.{NotFound, WrongLine, NotSameLine}

-- ---- empty lines

-- a newline behind which a line is empty
pub record EndsBeforeEmpty (text : List ℕ) (at : ℕ) : Type 0 where
  pub within : at < length text
  pub newline : slice_index text at ≡ 10
  pub empty : (at + 1 ≡ length text) ⊎ ((at + 1 < length text) × (slice_index text (at + 1) ≡ 10))

-- the least newline from a place on behind which a line is empty, if there is one
abbrev pub IsEmptyLine : List ℕ → ℕ → Option ℕ → Type 0
IsEmptyLine text from None = (at : ℕ) → from ≤ at → ¬ EndsBeforeEmpty text at
IsEmptyLine text from (Some found) =
    (from ≤ found) × EndsBeforeEmpty text found × ((at : ℕ) → from ≤ at → at < found → ¬ EndsBeforeEmpty text at)

-- whether the text ends in a newline, at or behind a place
abbrev pub ends_line : List ℕ → ℕ → Bool
ends_line text from = nat_lt from (length text) && slice_index text (length text - 1) == 10

-- two newlines, or else the last one
abbrev pub or_last : List ℕ → ℕ → Option ℕ → Option ℕ
or_last text from (Some at) = Some at
or_last text from None = if ends_line text from then Some (length text - 1) else None

-- the same as a value
abbrev pub empty_line : List ℕ → ℕ → Option ℕ
empty_line text from = or_last text from (first_in text (10 ∷ 10 ∷ []) from (length text))

-- the empty match behind a newline
abbrev pub behind_newline : ℕ → Option ℕ → Result Met FaultKind
behind_newline from None = Err (NotFound from 0)
behind_newline from (Some at) = Ok (record { span = span_of (at + 1) 0; fresh = [] })

-- ---- on which line

-- how many newlines stand between two offsets
abbrev pub newlines : List ℕ → ℕ → ℕ → ℕ
newlines text from to = count_by is_newline (take (to - from) (drop from text))

-- a match that has to stand on the line after the match before, which ended at `last`
abbrev pub on_next_line : List ℕ → ℕ → Result Met FaultKind → Result Met FaultKind
on_next_line text last (Err kind) = Err kind
on_next_line text last (Ok m) =
    if newlines text last m.span.from == 1 then Ok m else Err (WrongLine m.span.from last (newlines text last m.span.from))

-- a match that has to stand on the same line
abbrev pub on_same_line : List ℕ → ℕ → Result Met FaultKind → Result Met FaultKind
on_same_line text last (Err kind) = Err kind
on_same_line text last (Ok m) =
    if newlines text last m.span.from == 0 then Ok m else Err (NotSameLine m.span.from last)
