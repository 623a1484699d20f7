-- What calls leave of a tree, and why they tell a fault.
-- Own rule: no call changes what a tree tells. A fault of the tree is told only where it was counted, and never of a
-- tree of which no call fails.
use Rattle.std.specs.Prelude.{◌≡◌, ◌≢◌, ℕ, ◌≤◌, List, Option, None, Some, Result, Ok, Err, ⊤}
use Rattle.tt_outside.specs.Faults.{Rose}
use Rattle.tt_outside.specs.declared.tree.Node.{Node}
use Rattle.lit_dirs.specs.declared.fault.DiscoverFault.{DiscoverFault}
use Rattle.lit_dirs.specs.declared.fault.DiscoverFault.TheVariants.{TreeFault, NoMemory}

-- the fault that is told
abbrev pub fault_of : {A : Type 0} → Result A DiscoverFault → Option DiscoverFault
fault_of (Ok value) = None
fault_of (Err fault) = Some fault

-- what calls leave of a tree, by what it tells, its base and its count of faults
pub record Leaves {T : Type 0} (told : T → Option (List Node)) (base : T → List ℕ) (count : T → ℕ)
    (is_steady : T → Type 0) (old new : T) (fault : Option DiscoverFault) : Type 0 where
  pub nodes : told new ≡ told old
  pub root : base new ≡ base old
  pub later : count old ≤ count new
  pub cause : fault ≡ Some TreeFault → Rose (count old) (count new)
  pub calm : fault ≢ Some TreeFault → count new ≡ count old
  pub steady : is_steady old → (fault ≢ Some TreeFault) × is_steady new

-- A fault is told for a cause. That of the tree is counted there, and for want of memory nothing need be so.
abbrev pub Told : (DiscoverFault → Type 0) → DiscoverFault → Type 0
Told Cause TreeFault = ⊤
Told Cause NoMemory = ⊤
Told Cause fault = Cause fault

-- what is given is right, or a fault is told for a cause
abbrev pub Gives : {A : Type 0} → (A → Type 0) → (DiscoverFault → Type 0) → Result A DiscoverFault → Type 0
Gives Right Cause (Ok value) = Right value
Gives Right Cause (Err fault) = Told Cause fault
