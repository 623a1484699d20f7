-- The suite of a directory.
-- Own rule: a directory's suite is the one at it, or at the nearest directory above.
use Rattle.std.specs.Prelude.{◌≡◌, true, List, [], ◌∷◌, ◌++◌, Option, None, Some, Result, Ok, Err, map, reverse}
use Rattle.std.specs.List.{list_all}
use Rattle.tt_outside.specs.TreeMap.{is_part}
use Rattle.lit_paths.specs.Paths.{Parts}
use Rattle.lit_dirs.specs.Suites.{suite_at}
use Rattle.lit_suite.specs.declared.suite_file.Suite.{Suite}
use Rattle.lit_suite.specs.declared.suite_file.SuiteFault.{SuiteFault}
use Rattle.lit_look.specs.declared.root.SuiteRoot.{SuiteRoot}
use Rattle.tt_outside.specs.declared.tree.Node.{Node}

-- a suite and its directory
pub record Rooted : Type 0 where
  pub root : Parts
  pub suite : Suite

abbrev pub rooted_at : SuiteRoot → Rooted
rooted_at root = record { root = root.dir; suite = root.suite }

-- the suite that a directory is the root of
abbrev pub rooted : Parts → Option (Result Suite SuiteFault) → Option Rooted
rooted dir None = None
rooted dir (Some (Ok suite)) = Some (record { root = dir; suite = suite })
rooted dir (Some (Err fault)) = None

-- the fronts of a path, shortest first
abbrev pub fronts : Parts → List Parts
fronts [] = [] ∷ []
fronts (part ∷ path) = [] ∷ map (λ front. part ∷ front) (fronts path)

-- a directory and those above it, nearest first
abbrev pub upward : Parts → List Parts
upward dir = reverse (fronts dir)

abbrev pub or_else : Option Rooted → Option Rooted → Option Rooted
or_else (Some one) other = Some one
or_else None other = other

-- the suite of the first of these directories that is the root of one
abbrev pub first_suite : List Node → List Parts → Option Rooted
first_suite nodes [] = None
first_suite nodes (dir ∷ dirs) = or_else (rooted dir (suite_at nodes dir)) (first_suite nodes dirs)

-- of these directories, those up to the first that has a suite file
abbrev pub if_none : Option (Result Suite SuiteFault) → List Parts → List Parts
if_none None dirs = dirs
if_none (Some read) dirs = []

abbrev pub up_to_suite : List Node → List Parts → List Parts
up_to_suite nodes [] = []
up_to_suite nodes (dir ∷ dirs) = dir ∷ if_none (suite_at nodes dir) (up_to_suite nodes dirs)

-- the directories that are looked at for the suite of one, in their order: itself and those above it, up to one that has
-- a suite
abbrev pub looked_up : List Node → Parts → List Parts
looked_up nodes dir = up_to_suite nodes (upward dir)

-- the suite of the files in a directory
abbrev pub nearest : List Node → Parts → Option Rooted
nearest nodes dir = first_suite nodes (upward dir)

-- a path made of parts is a directory, or lies below it
pub record LiesIn (dir path : Parts) : Type 0 where
  pub rest : Parts
  pub is : path ≡ dir ++ rest
  pub parts : list_all is_part path ≡ true
