-- The shape of an expression: its size once its bounds are unfolded, its groups, its references.
-- Own rule: POSIX.1 sets no limit on the size of an expression; this size counts what a matcher has to keep.
use Rattle.std.specs.Prelude.{ℕ, ◌+◌, ◌*◌, max, Bool, true, false, ◌||◌, Option, Some, None, length}
use Rattle.ere_tree.specs.Tree.{Tree, Trees, empty, plain, set, line_start, line_end, cat, alt, repeat, group, back, none, then}

-- how often the inner expression of a repeat stands in the unfolded one
abbrev pub copies : ℕ → Option ℕ → ℕ
copies least None = least + 1
copies least (Some most) = most

abbrev mutual
  -- the size of an expression
  pub size_of : Tree → ℕ
  size_of empty = 1
  size_of (plain bytes) = length bytes
  size_of (set bytes) = 1
  size_of line_start = 1
  size_of line_end = 1
  size_of (cat ts) = size_of_all ts
  size_of (alt ts) = size_of_all ts + 1
  size_of (repeat t least most) = copies least most * size_of t + 1
  size_of (group number t) = size_of t + 1
  size_of (back number fold) = 1

  -- the sum of the sizes
  pub size_of_all : Trees → ℕ
  size_of_all none = 0
  size_of_all (then t ts) = size_of t + size_of_all ts

abbrev mutual
  -- the greatest group number of an expression, 0 where it has no group
  pub greatest_group : Tree → ℕ
  greatest_group empty = 0
  greatest_group (plain bytes) = 0
  greatest_group (set bytes) = 0
  greatest_group line_start = 0
  greatest_group line_end = 0
  greatest_group (cat ts) = greatest_group_of ts
  greatest_group (alt ts) = greatest_group_of ts
  greatest_group (repeat t least most) = greatest_group t
  greatest_group (group number t) = max number (greatest_group t)
  greatest_group (back number fold) = 0

  -- the greatest of all of them
  pub greatest_group_of : Trees → ℕ
  greatest_group_of none = 0
  greatest_group_of (then t ts) = max (greatest_group t) (greatest_group_of ts)

abbrev mutual
  -- whether an expression holds a reference
  pub has_refs : Tree → Bool
  has_refs empty = false
  has_refs (plain bytes) = false
  has_refs (set bytes) = false
  has_refs line_start = false
  has_refs line_end = false
  has_refs (cat ts) = any_has_refs ts
  has_refs (alt ts) = any_has_refs ts
  has_refs (repeat t least most) = has_refs t
  has_refs (group number t) = has_refs t
  has_refs (back number fold) = true

  -- whether one of them holds a reference
  pub any_has_refs : Trees → Bool
  any_has_refs none = false
  any_has_refs (then t ts) = has_refs t || any_has_refs ts

abbrev mutual
  -- the greatest number of a group or reference, 0 where there is neither
  pub greatest_number : Tree → ℕ
  greatest_number empty = 0
  greatest_number (plain bytes) = 0
  greatest_number (set bytes) = 0
  greatest_number line_start = 0
  greatest_number line_end = 0
  greatest_number (cat ts) = greatest_number_of ts
  greatest_number (alt ts) = greatest_number_of ts
  greatest_number (repeat t least most) = greatest_number t
  greatest_number (group number t) = max number (greatest_number t)
  greatest_number (back number fold) = number

  -- the greatest of all of them
  pub greatest_number_of : Trees → ℕ
  greatest_number_of none = 0
  greatest_number_of (then t ts) = max (greatest_number t) (greatest_number_of ts)

abbrev mutual
  -- the expression with every number of a group or reference raised
  pub shifted : ℕ → Tree → Tree
  shifted by empty = empty
  shifted by (plain bytes) = plain bytes
  shifted by (set bytes) = set bytes
  shifted by line_start = line_start
  shifted by line_end = line_end
  shifted by (cat ts) = cat (all_shifted by ts)
  shifted by (alt ts) = alt (all_shifted by ts)
  shifted by (repeat t least most) = repeat (shifted by t) least most
  shifted by (group number t) = group (number + by) (shifted by t)
  shifted by (back number fold) = back (number + by) fold

  -- all of them, raised by the same number
  pub all_shifted : ℕ → Trees → Trees
  all_shifted by none = none
  all_shifted by (then t ts) = then (shifted by t) (all_shifted by ts)
