-- What references of an expression name.
-- Own rule: what other groups hold makes no difference to what the expression derives.
use Rattle.std.specs.Prelude.{◌≢◌, take, length, ◌≡◌, ◌↔◌, ℕ, ◌⊎◌, List, false}
use Rattle.std.specs.List.{Contains}
use Rattle.ere_tree.specs.Shape.{has_refs}
use Rattle.ere_tree.specs.Tree.{Tree, Trees, cat, alt, repeat, group, back, none, then, trees_of}
use Rattle.ere_reach.specs.Moving.{sets_one}

abbrev mutual
  -- a reference to this number stands in the tree
  pub Refers : Tree → ℕ → Type 0
  Refers (cat ts) n = OneRefers ts n
  Refers (alt ts) n = OneRefers ts n
  Refers (repeat t least most) n = Refers t n
  Refers (group number t) n = Refers t n
  Refers (back number fold) n = number ≡ n
  Refers t n = ⊥

  -- or in one of them
  pub OneRefers : Trees → ℕ → Type 0
  OneRefers none n = ⊥
  OneRefers (then t ts) n = Refers t n ⊎ OneRefers ts n

-- the list begins with another one
abbrev pub IsFront : List ℕ → List ℕ → Type 0
IsFront old new = take (length old) new ≡ old

-- the list has those numbers that pass, and those of another one
abbrev pub HasMore : (ℕ → Type 0) → List ℕ → List ℕ → Type 0
HasMore P old new = (n : ℕ) → Contains new n ↔ (Contains old n ⊎ P n)

-- it has what these trees refer to, and those of another one
abbrev pub AddsRefs : List Tree → List ℕ → List ℕ → Type 0
AddsRefs all old new = HasMore (OneRefers (trees_of all)) old new

-- it has the others of a list, and not this one
abbrev pub IsWithout : ℕ → List ℕ → List ℕ → Type 0
IsWithout own numbers found = (n : ℕ) → Contains found n ↔ (Contains numbers n × (n ≢ own))

-- what a group of this number holds has no reference, and sets no other group that is read
pub record IsFree (t : Tree) (number : ℕ) (live : List ℕ) : Type 0 where
  pub refers : has_refs t ≡ false
  pub sets : (others : List ℕ) × IsWithout number live others × (sets_one t others ≡ false)
