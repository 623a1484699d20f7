-- Which groups stand in an expression.
-- Own rule: what a group holds stays as it was, along trees in which it doesn't stand.
use Rattle.std.specs.Prelude.{ℕ, Bool, false, ◌==◌, ◌||◌}
use Rattle.ere_tree.specs.Tree.{Tree, Trees, empty, plain, set, line_start, line_end, cat, alt, repeat, group, back, none, then}

abbrev mutual
  -- whether a group of this number stands in the tree
  pub sets : Tree → ℕ → Bool
  sets empty n = false
  sets (plain bytes) n = false
  sets (set bytes) n = false
  sets line_start n = false
  sets line_end n = false
  sets (cat ts) n = any_sets ts n
  sets (alt ts) n = any_sets ts n
  sets (repeat t least most) n = sets t n
  sets (group number t) n = number == n || sets t n
  sets (back number fold) n = false

  -- or in one of them
  pub any_sets : Trees → ℕ → Bool
  any_sets none n = false
  any_sets (then t ts) n = sets t n || any_sets ts n
