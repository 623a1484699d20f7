-- Where a match can begin.
-- Own rule: plain text that stands in every match tells where there is none. Where what stands before it in the match
-- holds no newline, the match begins in the line of that text.
use Rattle.std.specs.Prelude.{◌≡◌, ℕ, ◌<◌, ◌≤◌, ◌==◌, ◌||◌, Bool, true, false, List, slice_index}
use Rattle.std.specs.List.{list_any}
use Rattle.ere_tree.specs.Tree.{Tree, Trees, empty, plain, set, line_start, line_end, cat, alt, repeat, group, back, none, then}
use Rattle.ere_tree.specs.Derivation.{Spans}

-- no match of the tree begins before the place
pub record NoneBefore (s : List ℕ) (t : Tree) (place : ℕ) : Type 0 where
  pub none : (h k : ℕ) → h < place → Spans s t h k → ⊥

-- a newline stands in [i, j) of the slice
pub record HasNewline (s : List ℕ) (i j : ℕ) : Type 0 where
  pub at : ℕ
  pub from : i ≤ at
  pub before : at < j
  pub is : slice_index s at ≡ 10

abbrev mutual
  -- whether a match can hold a newline, as far as sets and plain text tell
  pub may_hold_newline : Tree → Bool
  may_hold_newline empty = false
  may_hold_newline (plain bytes) = list_any (λ b. b == 10) bytes
  may_hold_newline (set bytes) = list_any (λ b. b == 10) bytes
  may_hold_newline line_start = false
  may_hold_newline line_end = false
  may_hold_newline (cat ts) = any_may_hold_newline ts
  may_hold_newline (alt ts) = any_may_hold_newline ts
  may_hold_newline (repeat t least most) = may_hold_newline t
  may_hold_newline (group number t) = may_hold_newline t
  may_hold_newline (back number fold) = true

  -- the same of at least one of them
  pub any_may_hold_newline : Trees → Bool
  any_may_hold_newline none = false
  any_may_hold_newline (then t ts) = may_hold_newline t || any_may_hold_newline ts
