-- The suites of a tree.
-- Own rule: a directory with a file `lit.suite.toml` is the root of a suite.
use Rattle.std.specs.Prelude.{codes, ℕ, List, [], ◌∷◌, ◌++◌, Option, Result}
use Rattle.std.specs.Option.{option_map}
use Rattle.lit_paths.specs.Paths.{Parts, text_of}
use Rattle.lit_suite.specs.declared.suite_file.Suite.{Suite}
use Rattle.lit_suite.specs.declared.suite_file.SuiteFault.{SuiteFault}
use Rattle.lit_suite.specs.Suites.{suite_file}
use Rattle.tt_outside.specs.declared.tree.Node.{Node}
use Rattle.tt_outside.specs.TreeMap.{file_at}

-- the path of a directory's suite file
abbrev pub suite_path : Parts → List ℕ
suite_path dir = text_of (dir ++ codes "lit.suite.toml" ∷ [])

-- what the suite file of a directory reads as
abbrev pub suite_at : List Node → Parts → Option (Result Suite SuiteFault)
suite_at nodes dir = option_map suite_file (file_at nodes (suite_path dir))
