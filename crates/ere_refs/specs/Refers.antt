-- What references of an expression name.
-- Own rule: captures that agree on that are as good as equal for what the expression derives.
use Rattle.std.specs.Prelude.{◌≡◌, ℕ, ◌⊎◌, Bool, true, ◌&&◌, nat_le, nat_lt, List}
use Rattle.std.specs.List.{Contains}
use Rattle.std.specs.FinMap.{get}
use Rattle.ere_tree.specs.Captures.{Captures}
use Rattle.ere_tree.specs.Tree.{Tree, Trees, empty, plain, set, line_start, line_end, cat, alt, repeat, group, back, none, then}

abbrev mutual
  -- a reference to this number stands in the tree
  pub Refers : Tree → ℕ → Type 0
  Refers (cat ts) n = OneRefers ts n
  Refers (alt ts) n = OneRefers ts n
  Refers (repeat t least most) n = Refers t n
  Refers (group number t) n = Refers t n
  Refers (back number fold) n = number ≡ n
  Refers t n = ⊥

  -- or in one of them
  pub OneRefers : Trees → ℕ → Type 0
  OneRefers none n = ⊥
  OneRefers (then t ts) n = Refers t n ⊎ OneRefers ts n

-- the list has each number that passes
abbrev pub HasEach : (ℕ → Type 0) → List ℕ → Type 0
HasEach P numbers = (n : ℕ) → P n → Contains numbers n

-- the groups that pass hold the same in both
abbrev pub Agree : (ℕ → Type 0) → Captures → Captures → Type 0
Agree P c b = (n : ℕ) → P n → get c n ≡ get b n

abbrev mutual
  -- whether each reference is to one of so many groups
  pub refs_fit : ℕ → Tree → Bool
  refs_fit count empty = true
  refs_fit count (plain bytes) = true
  refs_fit count (set bytes) = true
  refs_fit count line_start = true
  refs_fit count line_end = true
  refs_fit count (cat ts) = all_refs_fit count ts
  refs_fit count (alt ts) = all_refs_fit count ts
  refs_fit count (repeat t least most) = refs_fit count t
  refs_fit count (group number t) = refs_fit count t
  refs_fit count (back number fold) = nat_lt 0 number && nat_le number count

  -- of all of these trees
  pub all_refs_fit : ℕ → Trees → Bool
  all_refs_fit count none = true
  all_refs_fit count (then t ts) = refs_fit count t && all_refs_fit count ts
