-- How deep a tree is: by this the calls of the walk end.
use Rattle.std.proofs.Common.{◌≡◌, ℕ, zero, suc, ◌+◌, ◌<◌, ◌≤◌, List, [], ◌∷◌, length, map, get_or, ap, arith}
use Rattle.std.specs.Prelude.{max}
use Rattle.ere_tree.specs.Tree.{Tree, Trees, cat, alt, repeat, group, none, then, trees_of}
use Rattle.ere_tree.specs.View.{view}
use Rattle.ere_tree.specs.declared.ere.Ere.{Ere}

abbrev mutual
  pub depth : Tree → ℕ
  depth (cat ts) = depth_of ts + 1
  depth (alt ts) = depth_of ts + 1
  depth (repeat t least most) = depth t + 1
  depth (group number t) = depth t + 1
  depth t = 0

  pub depth_of : Trees → ℕ
  depth_of none = 0
  depth_of (then t ts) = max (depth t) (depth_of ts)

-- one of some trees is no deeper than the deepest
pub depth_at : (items : List Ere) (k : ℕ) (one : Ere) → k < length items → one ≡ get_or items k one
    → depth (view one) ≤ depth_of (trees_of (map view items))
depth_at [] k one low is = absurd (omega arith)
depth_at (e ∷ items) zero one low is =
    let same : depth (view one) ≡ depth (view e) = ap (λ x. depth (view x)) is in
    omega (arith, same)
depth_at (e ∷ items) (suc k) one low is = let rest = depth_at items k one (omega arith) is in omega (arith, rest)
