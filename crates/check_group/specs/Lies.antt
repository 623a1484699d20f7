-- Where faults lie. Own rule: a fault tells the number of its directive and offsets of the text.
use Rattle.std.specs.Prelude.{◌≤◌, ℕ, List, map}
use Rattle.check_group.specs.declared.directive.Check.{Check}
use Rattle.check_group.specs.declared.fault.Fault.{Fault}
use Rattle.check_group.specs.declared.fault.FaultKind.{FaultKind}
use Rattle.check_group.specs.declared.fault.FaultKind.TheVariants.{NotFound, WrongLine, NotSameLine, Excluded, Undefined, Range, ZeroDivisor, Unreadable}

-- the numbers of directives
abbrev pub numbers_of : List Check → List ℕ
numbers_of checks = map (λ check. check.number) checks

-- the offsets that a fault tells lie in a text that ends at an offset
abbrev pub OffsetsLie : ℕ → FaultKind → Type 0
OffsetsLie to (NotFound from done) = from ≤ to
OffsetsLie to (WrongLine found last n) = (found ≤ to) × (last ≤ to)
OffsetsLie to (NotSameLine found last) = (found ≤ to) × (last ≤ to)
OffsetsLie to (Excluded found) = found ≤ to
OffsetsLie to (Undefined names) = Unit {0}
OffsetsLie to Range = Unit {0}
OffsetsLie to ZeroDivisor = Unit {0}
OffsetsLie to (Unreadable found) = found ≤ to

-- a fault is that of a directive with such a number, and its offsets lie in the text
abbrev pub FaultLies : (ℕ → Type 0) → ℕ → Fault → Type 0
FaultLies IsNumber to fault = IsNumber fault.directive × OffsetsLie to fault.kind
