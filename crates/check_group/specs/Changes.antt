-- How the variables change in the course of a check. After LLVM Command Guide, FileCheck, 'FileCheck String Substitution
-- Blocks' and `--enable-var-scope`. Own rule: bindings that were made stay, at a fault and at want of memory.
use Rattle.std.specs.Prelude.{◌≡◌, List, [], ◌∷◌, ◌++◌}
use Rattle.std.specs.FinMap.{FinMap}
use Rattle.num_base.specs.Names.{name_cmp}
use Rattle.pattern_vars.specs.Vars.{HavePlaces, bound_all, forgotten}
use Rattle.pattern_vars.specs.declared.binding.Binding.{Binding}
use Rattle.pattern_vars.specs.declared.vars.Held.{Held}
use Rattle.pattern_parse.specs.PieceView.{items_view}
use Rattle.pattern_parse.specs.Search.{IsSearchable}
use Rattle.pattern_scan.specs.Seek.{names_of}
use Rattle.check_group.specs.declared.directive.Check.{Check}

-- what is held under each name
abbrev pub Variables : Type 0
Variables = FinMap name_cmp Held

-- what changes the variables: the bindings of a match, or the start of a block that forgets
pub data Change : Type 0 where
  binds : List Binding → Change
  forgets : Change

abbrev pub changed_once : Variables → Change → Variables
changed_once vars (binds fresh) = bound_all vars fresh
changed_once vars forgets = forgotten vars

-- the variables behind changes, in order
unfoldable pub changed : Variables → List Change → Variables
changed vars [] = vars
changed vars (change ∷ changes) = changed (changed_once vars change) changes

-- the variables behind the first of these changes, however many
abbrev pub IsPartWay : List Change → Variables → Variables → Type 0
IsPartWay changes old new = (front rest : List Change) × (front ++ rest ≡ changes) × (new ≡ changed old front)

-- a directive's pattern can be sought, and each name that it defines has a place
pub record IsReady (vars : Variables) (check : Check) : Type 0 where
  pub searchable : IsSearchable (items_view check.pattern.pieces)
  pub placed : HavePlaces vars (names_of check.pattern)
