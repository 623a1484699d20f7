-- What a reader believes of groups, beside the values that compute.
-- After LLVM Command Guide, FileCheck: no two DAGs of a group share bytes. Own rule: the chain of tries.
use Rattle.std.specs.Prelude.{◌≡◌, ℕ, ◌+◌, ◌<◌, ◌≤◌, false, List, Some, Result, Ok, IfOk}
use Rattle.std.specs.List.{AllByRecursion}
use Rattle.tt_base.specs.declared.place.Span.{Span}
use Rattle.check_group.specs.Group.{IsChain, lowest, overlaps, tried}
use Rattle.check_group.specs.declared.answer.Met.{Met}
use Rattle.check_group.specs.declared.fault.FaultKind.{FaultKind}

-- where a try overlaps a range, that range ends behind the try's start and within the text
abbrev pub Advances : (ℕ → Result Met FaultKind) → List Span → ℕ → Type 0
Advances try ranges to = (from : ℕ) (m : Met) (range : Span) → from ≤ to → try from ≡ Ok m → lowest m.span ranges ≡ Some range →
    (from < range.to) × (range.to ≤ to)

-- as many tries as there are places are a whole chain
abbrev pub TriesAreAChain : Type 0
TriesAreAChain = (try : ℕ → Result Met FaultKind) (ranges : List Span) (to left from : ℕ)
    → Advances try ranges to → from ≤ to → to ≤ from + left
    → (starts : List ℕ) × IsChain try ranges from starts (tried try ranges left from)

-- the last of a chain overlaps none of the ranges
abbrev pub MembersApart : Type 0
MembersApart = (try : ℕ → Result Met FaultKind) (ranges : List Span) (from : ℕ) (starts : List ℕ) (met : Result Met FaultKind)
    → IsChain try ranges from starts met → IfOk met (λ m. AllByRecursion (λ range. overlaps m.span range ≡ false) ranges)
