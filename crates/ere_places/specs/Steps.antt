-- Steps from place to place, one behind the other.
-- Own rule: how the code goes through an expression; what its answers mean is said by `AreReached` and `Leads`.
use Rattle.std.specs.Prelude.{◌≡◌, ℕ, zero, suc, ◌-◌, ◌≤◌, Option, Some, None, List, [], ◌∷◌, reverse, nat_lt, ◌⊎◌, if◌then◌else◌}
use Rattle.ere_tree.specs.Tree.{Tree}
use Rattle.ere_places.specs.declared.window.Direction.{Direction}
use Rattle.ere_places.specs.declared.window.Direction.TheVariants.{Ahead, Back}
use Rattle.ere_places.specs.declared.window.Window.{Window}
use Rattle.ere_places.specs.Places.{LeadsInside}

-- so many steps
abbrev pub Chain : (ℕ → ℕ → Type 0) → ℕ → ℕ → ℕ → Type 0
Chain R zero p q = p ≡ q
Chain R (suc n) p q = (r : ℕ) × R p r × Chain R n r q

-- up to so many steps
abbrev pub ChainUpTo : (ℕ → ℕ → Type 0) → ℕ → ℕ → ℕ → Type 0
ChainUpTo R most p q = (n : ℕ) × (n ≤ most) × Chain R n p q

-- up to so many members one behind the other
abbrev pub MembersUpTo : List ℕ → Tree → Window → ℕ → ℕ → ℕ → Type 0
MembersUpTo s t window most p q = ChainUpTo (LeadsInside s t window) most p q

-- through each of the trees, in order
abbrev pub Through : List ℕ → Window → List Tree → ℕ → ℕ → Type 0
Through s window [] p q = p ≡ q
Through s window (t ∷ ts) p q = (r : ℕ) × LeadsInside s t window p r × Through s window ts r q

-- by one of the trees
abbrev pub ByOne : List ℕ → Window → List Tree → ℕ → ℕ → Type 0
ByOne s window [] p q = ⊥
ByOne s window (t ∷ ts) p q = LeadsInside s t window p q ⊎ ByOne s window ts p q

-- trees in the order in which they are gone through
abbrev pub in_order : Direction → List Tree → List Tree
in_order Ahead ts = ts
in_order Back ts = reverse ts

-- where the tree stands that comes after so many others
abbrev pub place_in : Direction → ℕ → ℕ → ℕ
place_in Ahead count index = index
place_in Back count index = count - 1 - index

-- How many members more than `least` a repeat may have in a window so wide: behind the minimum each takes a byte.
-- None where it can have none at all.
abbrev pub further_members : ℕ → Option ℕ → ℕ → Option ℕ
further_members least None width = Some width
further_members least (Some most) width = if nat_lt most least then None else Some (most - least)
