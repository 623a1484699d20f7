-- A test, from its path and its suite.
-- After LLVM Command Guide, lit, 'SUBSTITUTIONS', for what its paths are. Own rule: where temporary files lie, how a test
-- is named, and that a part of a suite adds to the tests below its directory.
use Rattle.std.specs.Prelude.{◌≡◌, ◌≢◌, ℕ, ◌-◌, Bool, codes, List, [], ◌∷◌, ◌++◌, length, map, Option, None, Some, Result, IfOk, slice_get}
use Rattle.std.specs.List.{filter, flat_map}
use Rattle.std.specs.Option.{unwrap_or}
use Rattle.lit_paths.specs.Paths.{AreParts, Parts, dir_of, inner_text_of, is_above, joined, parts_of, slashed, text_of}
use Rattle.lit_suite.specs.declared.suite_file.Part.{Part}
use Rattle.lit_suite.specs.declared.suite_file.Suite.{Suite}
use Rattle.tt_outside.specs.declared.request.Pair.{Pair}
use Rattle.tt_outside.specs.declared.test_data.Test.{Test}

-- ---- what a suite adds

-- a part's directory is above a path, both below the root of the suite
abbrev pub holds_path : Parts → Part → Bool
holds_path below part = is_above (parts_of part.path) below

-- the parts of a suite that hold a path
abbrev pub parts_over : List Part → Parts → List Part
parts_over parts below = filter (holds_path below) parts

-- the features of a test: its suite's, and behind them those of each part that holds it
abbrev pub features_of : Suite → Parts → List (List ℕ)
features_of suite below = suite.features ++ flat_map (λ part. part.features) (parts_over suite.parts below)

-- the replacements of a test: those of each part that holds it, and behind them its suite's
abbrev pub substitutions_of : Suite → Parts → List Pair
substitutions_of suite below =
    flat_map (λ part. part.substitutions) (parts_over suite.parts below) ++ suite.substitutions

-- a program's path is joined to the directory of the suite
abbrev pub tool_of : Parts → Pair → Pair
tool_of root tool = record { name = tool.name; value = text_of (joined root tool.value) }

-- ---- paths of a test

-- the last part of a path
abbrev pub name_of : Parts → List ℕ
name_of path = unwrap_or (slice_get path (length path - 1)) []

abbrev pub exec_root_of : Parts → Option (List ℕ) → Parts
exec_root_of root None = root
exec_root_of root (Some path) = joined root path

-- the directory in which the commands of a test run
abbrev pub work_dir_of : Parts → Suite → Parts → Parts
work_dir_of root suite below = exec_root_of root suite.exec_root ++ dir_of below

-- the directory of temporary files in that of the commands, and how their paths begin for a test of a name
abbrev pub temps_in : Parts → Parts
temps_in dir = dir ++ codes "Output" ∷ []

abbrev pub temp_of : Parts → List ℕ → List ℕ
temp_of dir name = text_of (temps_in dir ++ (name ++ codes ".tmp") ∷ [])

-- the directory of the temporary files of a test
abbrev pub temp_dir_of : Parts → Suite → Parts → Parts
temp_dir_of root suite below = temps_in (work_dir_of root suite below)

-- the name of a test: its suite's, and its path below the root
abbrev pub test_name : Suite → Parts → List ℕ
test_name suite below = suite.name ++ codes " :: " ++ inner_text_of below

-- the test of a path below the root of its suite
pub record IsTestOf (root : Parts) (suite : Suite) (below : Parts) (test : Test) : Type 0 where
  pub named : test.name ≡ test_name suite below
  pub file : test.path ≡ text_of (root ++ below)
  pub source : test.source_dir ≡ text_of (root ++ dir_of below)
  pub work : test.work_dir ≡ text_of (work_dir_of root suite below)
  pub temps : test.temp_dir ≡ text_of (temp_dir_of root suite below)
  pub temporary : test.temp ≡ temp_of (work_dir_of root suite below) (name_of below)
  pub features : test.features ≡ features_of suite below
  pub substitutions : test.substitutions ≡ substitutions_of suite below
  pub tools : test.tools ≡ map (tool_of root) suite.tools
  pub environment : test.environment ≡ suite.environment

-- ---- what is given of a path, whichever it is

-- a text of a directory, from its path with each part behind a slash
abbrev pub GivesOf : {E : Type 0} → List ℕ → (Parts → List ℕ) → Result (List ℕ) E → Type 0
GivesOf work text_in result =
    (dir : Parts) → work ≡ slashed dir → IfOk result (λ text. text ≡ text_in dir)

-- the directory of the commands, each part behind a slash, from that of the test file written so
abbrev pub GivesWorkDir : {E : Type 0} → Parts → Suite → List ℕ → Result (List ℕ) E → Type 0
GivesWorkDir root suite dir result =
    (below : Parts) → dir ≡ slashed root ++ slashed (dir_of below)
    → IfOk result (λ text. text ≡ slashed (work_dir_of root suite below))

-- the name of its test
abbrev pub GivesName : {E : Type 0} → Parts → Suite → List ℕ → Result (List ℕ) E → Type 0
GivesName root suite path result =
    (below : Parts) → path ≡ text_of (root ++ below) → below ≢ [] → IfOk result (λ name. name ≡ test_name suite below)

-- its test
abbrev pub GivesTest : {E : Type 0} → Parts → Suite → List ℕ → Result Test E → Type 0
GivesTest root suite path result =
    (below : Parts) → path ≡ text_of (root ++ below) → AreParts below → below ≢ []
    → IfOk result (IsTestOf root suite below)
