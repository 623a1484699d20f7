-- Prefixes: which of them is meant at the front of a text.
-- After LLVM Command Guide, FileCheck, --check-prefixes and --comment-prefixes. Own rule: of those that stand at one place the
-- longest counts.
use Rattle.std.specs.Prelude.{◌≡◌, ◌≤◌, ◌⊎◌, ℕ, ◌+◌, ◌<◌, nat_lt, Bool, true, if◌then◌else◌, List, [], ◌∷◌, length, slice_index_or, Option, None, Some}
use Rattle.tt_base.specs.Occurrence.{begins_with}
use Rattle.prefix_tree.specs.declared.standing.Standing.{Standing}

-- ---- as a reader of a check file takes it

-- a prefix of that number and length stands at the front of a text
pub record Stands (prefixes : List (List ℕ)) (text : List ℕ) (one : Standing) : Type 0 where
  pub within : one.index < length prefixes
  pub begins : begins_with text (slice_index_or prefixes one.index []) ≡ true
  pub long : length (slice_index_or prefixes one.index []) ≡ one.length

-- a prefix counts before another: it is longer, or they are equally long and it comes first
abbrev pub CountsBefore : Standing → Standing → Type 0
CountsBefore one other = (other.length < one.length) ⊎ ((other.length ≡ one.length) × (one.index ≤ other.index))

-- of the prefixes that stand at the front of a text this one counts, or none stands
abbrev pub IsMeant : List (List ℕ) → List ℕ → Option Standing → Type 0
IsMeant prefixes text None = (one : Standing) → ¬ Stands prefixes text one
IsMeant prefixes text (Some one) =
    Stands prefixes text one × ((other : Standing) → Stands prefixes text other → CountsBefore one other)

-- ---- the same as a value

-- a prefix of a number, if it stands and is longer than the best so far
abbrev pub taken : Bool → ℕ → ℕ → Option Standing → Option Standing
taken stands index count None = if stands then Some (record { index = index; length = count }) else None
taken stands index count (Some best) =
    if stands then (if nat_lt best.length count then Some (record { index = index; length = count }) else Some best)
    else Some best

-- the longest of the prefixes that stand, of which the first has a number, or the best so far
unfoldable pub meant_from : List ℕ → ℕ → List (List ℕ) → Option Standing → Option Standing
meant_from text index [] best = best
meant_from text index (prefix ∷ later) best =
    meant_from text (index + 1) later (taken (begins_with text prefix) index (length prefix) best)

-- the longest of the prefixes that stand at the front of a text, the first of two equal
abbrev pub meant : List (List ℕ) → List ℕ → Option Standing
meant prefixes text = meant_from text 0 prefixes None
