-- What a search may rely on in the pieces of a pattern: the numbers of groups and references in their expressions.
-- Own rule: a search puts the groups of all pieces into one row of numbers, which stay below 2^31.
use Rattle.std.specs.Prelude.{ℕ, ◌+◌, ◌^◌, ◌≤◌, ◌<◌, List, All}
use Rattle.std.specs.List.{sum_by}
use Rattle.ere_tree.specs.Tree.{Tree, Trees, empty, plain, set, line_start, line_end, cat, alt, repeat, group, back, none, then}
use Rattle.ere_tree.specs.Shape.{greatest_number}
use Rattle.pattern_parse.specs.Item.{Item}
use Rattle.pattern_parse.specs.Item as item

abbrev mutual
  -- each group of an expression and each reference has a number of at least 1
  pub IsNumbered : Tree → Type 0
  IsNumbered empty = Unit {0}
  IsNumbered (plain bytes) = Unit {0}
  IsNumbered (set bytes) = Unit {0}
  IsNumbered line_start = Unit {0}
  IsNumbered line_end = Unit {0}
  IsNumbered (cat ts) = AreNumbered ts
  IsNumbered (alt ts) = AreNumbered ts
  IsNumbered (repeat t least most) = IsNumbered t
  IsNumbered (group number t) = (1 ≤ number) × IsNumbered t
  IsNumbered (back number fold) = 1 ≤ number

  pub AreNumbered : Trees → Type 0
  AreNumbered none = Unit {0}
  AreNumbered (then t ts) = IsNumbered t × AreNumbered ts

-- the expression of a piece is numbered so, where it has one
abbrev pub HasNumbers : Item → Type 0
HasNumbers (item.plain bytes) = Unit {0}
HasNumbers (item.regex tree) = IsNumbered tree
HasNumbers (item.define name tree) = IsNumbered tree
HasNumbers (item.recall name) = Unit {0}
HasNumbers (item.number num format) = Unit {0}

-- the greatest number in the expression of a piece, 0 where it has none
abbrev pub greatest_of : Item → ℕ
greatest_of (item.plain bytes) = 0
greatest_of (item.regex tree) = greatest_number tree
greatest_of (item.define name tree) = greatest_number tree
greatest_of (item.recall name) = 0
greatest_of (item.number num format) = 0

-- Pieces can be searched for: with two numbers more for each piece, all their groups and references have one.
pub record IsSearchable (items : List Item) : Type 0 where
  pub numbered : All HasNumbers items
  pub small : sum_by (λ piece. greatest_of piece + 2) items < 2 ^ 31
