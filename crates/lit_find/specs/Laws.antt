-- A law of discovery.
-- Own rule: each file is one test, and all of a test is told by the file's path and the tree.
use Rattle.std.specs.Prelude.{◌≡◌, List}
use Rattle.tt_outside.specs.declared.test_data.Test.{Test}
use Rattle.tt_outside.specs.declared.tree.Node.{Node}
use Rattle.lit_paths.specs.Paths.{Parts}
use Rattle.lit_find.specs.Found.{IsRight}

-- a file of a tree has one test at most, whatever words name it
abbrev pub IsOneTest : Type 0
IsOneTest =
    (nodes : List Node) (words others : List Parts) (one other : Test) → IsRight nodes words one
    → IsRight nodes others other → one.path ≡ other.path → one ≡ other
