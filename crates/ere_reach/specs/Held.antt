-- What groups hold that are still read.
-- Own rule: a part of the text stands for each that is the same, and nothing stands for a text that no reference can match
-- any more.
use Rattle.std.specs.Prelude.{◌≡◌, ℕ, ◌≤◌, ◌==◌, true, Option, Some, None, List, [], ◌∷◌, IfSome, if◌then◌else◌}
use Rattle.std.specs.FinMap.{get}
use Rattle.std.specs.List.{Contains}
use Rattle.ere_tree.specs.Captures.{Captures}
use Rattle.ere_tree.specs.Derivation.{IsPart, IsSameText, part}
use Rattle.ere_tree.specs.declared.hit.Cap.{Cap}
use Rattle.ere_reach.specs.declared.held.Held.{Held}

-- the part that a list has for a group: that of the first item of its number
abbrev pub part_in : List Held → ℕ → Option Cap
part_in [] n = None
part_in (one ∷ held) n = if one.number == n then Some one.part else part_in held n

-- from a place up to `high` no text stands that is this one, also with letters in either case
abbrev pub StandsNowhere : List ℕ → ℕ → ℕ → List ℕ → Type 0
StandsNowhere s high place bytes =
    (i j : ℕ) → place ≤ i → j ≤ high → IsPart s i j → IsSameText true (part s i j) bytes → ⊥

-- A part that is told for what a group holds is the same text. Where none is told, the group holds nothing, or what stands
-- nowhere from the place on.
abbrev pub Tells : List ℕ → ℕ → ℕ → Option Cap → Option (ℕ × ℕ) → Type 0
Tells s high place None holds = IfSome holds (λ r. StandsNowhere s high place (part s r.0 r.1))
Tells s high place (Some cap) holds =
    (r : ℕ × ℕ) × (holds ≡ Some r) × IsPart s cap.from cap.to × (part s r.0 r.1 ≡ part s cap.from cap.to)

-- a list tells what those of these groups hold that are read
abbrev pub Covers : List ℕ → ℕ → List ℕ → List Held → ℕ → Captures → Type 0
Covers s high live held place c = (n : ℕ) → Contains live n → Tells s high place (part_in held n) (get c n)

-- the second list tells the same as the first of those groups that are read
abbrev pub IsKept : List ℕ → List Held → List Held → Type 0
IsKept live held found = (n : ℕ) → Contains live n → part_in found n ≡ part_in held n

-- the same but for one group, of which this is told
abbrev pub IsKeptWith : List ℕ → ℕ → Option Cap → List Held → List Held → Type 0
IsKeptWith live own cap held found =
    (n : ℕ) → Contains live n → part_in found n ≡ (if n == own then cap else part_in held n)
