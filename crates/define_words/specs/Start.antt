-- The variables before the first directive. Own rule: each name of the patterns and of the words has a place.
use Rattle.std.specs.Prelude.{ℕ, List, ◌++◌, map}
use Rattle.std.specs.FinMap.{FinMap, empty}
use Rattle.num_base.specs.Names.{name_cmp}
use Rattle.pattern_vars.specs.Vars.{bound_all, name_of, with_places}
use Rattle.pattern_vars.specs.declared.binding.Binding.{Binding}
use Rattle.pattern_vars.specs.declared.vars.Held.{Held}

-- places under these names and under those of bindings, which are then stored
abbrev pub start : List (List ℕ) → List Binding → FinMap name_cmp Held
start names fresh = bound_all (with_places empty (names ++ map name_of fresh)) fresh
