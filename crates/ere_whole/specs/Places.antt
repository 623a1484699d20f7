-- Places of a text, block by block, and those that are led to from them.
-- Own rule: sets of places are told by a test, so that they need not be listed.
use Rattle.std.specs.Prelude.{◌≡◌, ◌↔◌, ℕ, Bool, List, length, ◌/◌, ◌%◌, ◌==◌, ◌&&◌, ◌≤◌, ◌<◌, IsTrue}
use Rattle.ere_tree.specs.Derivation.{Spans}
use Rattle.ere_tree.specs.Tree.{Tree}
use Rattle.ere_tree.specs.View.{has_bit}
use Rattle.ere_places.specs.Steps.{Chain}
use Rattle.ere_whole.specs.declared.places.Places.{Places}

-- whether a place is in the set
abbrev pub is_held : Places → ℕ → Bool
is_held places place = places.block == place / 256 && has_bit places.bits (place % 256)

-- all of these places lie in the text
abbrev pub AreInside : List ℕ → Places → Type 0
AreInside text places = (p : ℕ) → IsTrue (is_held places p) → p ≤ length text

-- the relation leads to q from one of the places
abbrev pub IsReached : (ℕ → ℕ → Type 0) → Places → ℕ → Type 0
IsReached R from q = (p : ℕ) × IsTrue (is_held from p) × R p q

-- these are exactly the places of their block to which the relation leads from some of those
abbrev pub AreReached : (ℕ → ℕ → Type 0) → Places → Places → Type 0
AreReached R from found = (q : ℕ) → IsTrue (is_held found q) ↔ ((q / 256 ≡ found.block) × IsReached R from q)

-- at least and at most so many steps
abbrev pub ChainBetween : (ℕ → ℕ → Type 0) → ℕ → ℕ → ℕ → ℕ → Type 0
ChainBetween R least most p q = (n : ℕ) × (least ≤ n) × (n ≤ most) × Chain R n p q

-- these are exactly the places of their block to which at least and at most so many members lead from some of those
abbrev pub AreMembers : List ℕ → Tree → ℕ → ℕ → Places → Places → Type 0
AreMembers s t least most from found = AreReached (ChainBetween (Spans s t) least most) from found

-- any number of steps
abbrev pub ChainAny : (ℕ → ℕ → Type 0) → ℕ → ℕ → Type 0
ChainAny R p q = (n : ℕ) × Chain R n p q

-- L leads to a place past this block, and R on from there
abbrev pub PastBlock : ℕ → (ℕ → ℕ → Type 0) → (ℕ → ℕ → Type 0) → ℕ → ℕ → Type 0
PastBlock last L R p q = (m : ℕ) × (last < m / 256) × L p m × R m q
