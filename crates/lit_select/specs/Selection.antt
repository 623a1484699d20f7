-- Which tests are kept.
-- Own rule: first the tests are kept in whose name an expression is found, then those are dropped in whose name another
-- is found. Found means that the expression has a hit in the name, leftmost and longest, after POSIX.1 XBD 9.4.
use Rattle.std.specs.Prelude.{ℕ, Bool, true, false, List, Option, None, Some, is_some, if◌then◌else◌, not}
use Rattle.std.specs.List.{filter}
use Rattle.ere_hit.specs.Value.{hit_in}
use Rattle.ere_tree.specs.Tree.{Tree}
use Rattle.tt_outside.specs.declared.test_data.Test.{Test}

-- an expression is found in a text
abbrev pub is_found : Tree → List ℕ → Bool
is_found tree text = is_some (hit_in text tree 0)

-- an expression is found in a test's name where that is wanted, or it isn't
abbrev pub chooses : Bool → Tree → Test → Bool
chooses is_wanted tree test = if is_wanted then is_found tree test.name else not (is_found tree test.name)

-- the tests that an expression chooses
abbrev pub chosen : Bool → Tree → List Test → List Test
chosen is_wanted tree tests = filter (chooses is_wanted tree) tests

-- the tests that an expression chooses, where there is one
abbrev pub chosen_by : Bool → Option Tree → List Test → List Test
chosen_by is_wanted None tests = tests
chosen_by is_wanted (Some tree) tests = chosen is_wanted tree tests

-- those that the first expression keeps, without those that the second drops
abbrev pub selected : Option Tree → Option Tree → List Test → List Test
selected keep drop tests = chosen_by false drop (chosen_by true keep tests)
