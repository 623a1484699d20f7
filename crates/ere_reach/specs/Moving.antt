-- What is told of a tree alone: which of its groups are read behind it, and whether it spans a byte at least.
-- Own rule: a tree that sets no group that is read may be gone through for many places at once.
use Rattle.std.specs.Prelude.{ℕ, Bool, true, false, List, [], ◌∷◌, ◌||◌, ◌&&◌, nat_lt, ◌==◌}
use Rattle.std.specs.List.{list_any}
use Rattle.ere_tree.specs.Tree.{Tree, Trees, plain, set, cat, alt, repeat, group, none, then}

abbrev mutual
  -- whether one of these groups stands in the tree
  pub sets_one : Tree → List ℕ → Bool
  sets_one (cat ts) live = one_sets_one ts live
  sets_one (alt ts) live = one_sets_one ts live
  sets_one (repeat t least most) live = sets_one t live
  sets_one (group number t) live = list_any (λ y. y == number) live || sets_one t live
  sets_one t live = false

  -- or in one of them
  pub one_sets_one : Trees → List ℕ → Bool
  one_sets_one none live = false
  one_sets_one (then t ts) live = sets_one t live || one_sets_one ts live

abbrev mutual
  -- whether the tree spans a byte at least, as far as its shape tells
  pub has_byte : Tree → Bool
  has_byte (plain []) = false
  has_byte (plain (b ∷ bytes)) = true
  has_byte (set bytes) = true
  has_byte (cat ts) = one_has_byte ts
  has_byte (alt ts) = each_has_byte ts
  has_byte (repeat t least most) = nat_lt 0 least && has_byte t
  has_byte (group number t) = has_byte t
  has_byte t = false

  -- one of them does
  pub one_has_byte : Trees → Bool
  one_has_byte none = false
  one_has_byte (then t ts) = has_byte t || one_has_byte ts

  -- each of them does
  pub each_has_byte : Trees → Bool
  each_has_byte none = true
  each_has_byte (then t ts) = has_byte t && each_has_byte ts
