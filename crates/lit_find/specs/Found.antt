-- What a discovery answers.
-- After LLVM Command Guide, lit, 'TEST DISCOVERY'. Own rule: each file is one test, and tests stand in byte order.
use Rattle.std.specs.Prelude.{◌≡◌, ℕ, ◌<◌, ◌≤◌, true, List, [], ◌++◌, map, length, All, Option, None, Some, Result, Ok, Err, ⊤}
use Rattle.std.specs.Cmp.Lexicographic.{slice_cmp}
use Rattle.std.specs.Ordering.{nat_cmp}
use Rattle.std.specs.List.{Any, Contains, list_all}
use Rattle.std.specs.List.Sorted.{IsStrictlySortedBy}
use Rattle.tt_outside.specs.declared.test_data.Test.{Test}
use Rattle.tt_outside.specs.declared.tree.Node.{Node}
use Rattle.tt_outside.specs.TreeMap.{is_part}
use Rattle.lit_dirs.specs.declared.fault.DiscoverFault.{DiscoverFault}
use Rattle.lit_dirs.specs.declared.fault.DiscoverFault.TheVariants.{TooMany, NoTests}
use Rattle.lit_find.specs.Discovery.{IsTest}
use Rattle.lit_paths.specs.Paths.{Parts, dir_of, joined, parts_of, text_of}
use Rattle.lit_find.specs.Refusals.{IsClear, IsRefused}
use Rattle.lit_look.specs.Suites.{Rooted, nearest}
use Rattle.lit_look.specs.Trees.{Told}
use Rattle.lit_dirs.specs.Tests.{IsTestOf}

-- a test is that of a path which the words make one, with the nearest suite
pub record IsRight (nodes : List Node) (words : List Parts) (test : Test) : Type 0 where
  pub rooted : Rooted
  pub below : Parts
  pub parts : list_all is_part (rooted.root ++ below) ≡ true
  pub suite : nearest nodes (dir_of (rooted.root ++ below)) ≡ Some rooted
  pub passes : IsTest nodes words (rooted.root ++ below)
  pub made : IsTestOf rooted.root rooted.suite below test

-- these are the tests that were found, each path once, in byte order
pub record IsInOrder (found tests : List Test) : Type 0 where
  pub ascending : IsStrictlySortedBy (slice_cmp nat_cmp) (map (λ test. test.path) tests)
  pub right : All (Contains found) tests
  pub whole : All (λ one. Any (λ test. test.path ≡ one.path) tests) found

-- the tests are those of the paths that the words make tests, each once, in byte order
pub record AreTests (nodes : List Node) (words : List Parts) (tests : List Test) : Type 0 where
  pub ascending : IsStrictlySortedBy (slice_cmp nat_cmp) (map (λ test. test.path) tests)
  pub right : All (IsRight nodes words) tests
  pub whole : (path : Parts) → list_all is_part path ≡ true → IsTest nodes words path
      → Any (λ test. test.path ≡ text_of path) tests

-- the answer of a discovery: the tests, or the first refusal; of want of memory and a fault of the tree see `Told`
abbrev pub AnswersTo : List Node → List Parts → Result (List Test) DiscoverFault → Type 0
AnswersTo nodes words (Ok tests) =
    IsClear nodes words × AreTests nodes words tests × (0 < length tests) × (length tests ≤ 100000)
AnswersTo nodes words (Err NoTests) = IsClear nodes words × AreTests nodes words []
AnswersTo nodes words (Err TooMany) =
    IsClear nodes words × ((tests : List Test) × AreTests nodes words tests × (100000 < length tests))
AnswersTo nodes words (Err fault) = Told (IsRefused nodes words) fault

-- the answer where the tree tells what stands in it; words are joined to its base
abbrev pub Discovers : Option (List Node) → List ℕ → List (List ℕ) → Result (List Test) DiscoverFault → Type 0
Discovers None base words result = ⊤
Discovers (Some nodes) base words result = AnswersTo nodes (map (joined (parts_of base)) words) result
