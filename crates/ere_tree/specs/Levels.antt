-- What the parser holds: the levels that are open, with what was read of each.
use Rattle.std.specs.Prelude.{ℕ, ◌+◌, Bool, Option, None, List, [], ◌∷◌, ◌++◌, map, reverse, if◌then◌else◌}
use Rattle.ere_tree.specs.Case.{both_cases, is_folded}
use Rattle.ere_tree.specs.Tree.{Tree, plain, set, line_start, line_end, group}
use Rattle.ere_tree.specs.Token.{Token, Atom, byte, one_of, same_as, item, bar, open_group, close_group}
use Rattle.ere_tree.specs.Token as tokens
use Rattle.ere_tree.specs.Grammar.{branch_of, either_of, repeated, atom_tree}
use Rattle.ere_tree.specs.Place.{Open, Place}
use Rattle.ere_tree.specs.View.{view}
use Rattle.ere_tree.specs.declared.bound.Bound.{Bound}
use Rattle.ere_tree.specs.declared.level.Last.{Last}
use Rattle.ere_tree.specs.declared.level.Last.TheVariants.{Nothing, Bar, Part}
use Rattle.ere_tree.specs.declared.level.Level as held
use Rattle.ere_tree.specs.declared.parser.Reader as held_by

-- a level: its closed branches, and of the branch at hand its parts and then the bytes that may still be
-- joined
pub record Level : Type 0 where
  pub at : ℕ
  pub number : ℕ
  pub last : Last
  pub branches : List Tree
  pub parts : List Tree
  pub run : List ℕ

-- the levels: how many groups began, the innermost level, and those round it, innermost first
pub record Levels : Type 0 where
  pub groups : ℕ
  pub inner : Level
  pub outer : List Level

-- bytes that follow each other, as parts
abbrev pub run_parts : List ℕ → List Tree
run_parts [] = []
run_parts (b ∷ bs) = plain (b ∷ bs) ∷ []

-- all parts of the branch at hand
abbrev pub parts_of : Level → List Tree
parts_of level = level.parts ++ run_parts level.run

-- a level in which nothing was read
abbrev pub new_level : ℕ → ℕ → Level
new_level at number = record { at = at; number = number; last = Nothing; branches = []; parts = []; run = [] }

abbrev pub with_letter : ℕ → Level → Level
with_letter b level = record level { last = Part; run = level.run ++ b ∷ [] }

-- the bytes are joined
abbrev pub with_run_ended : Level → Level
with_run_ended level = record level { parts = parts_of level; run = [] }

abbrev pub with_part : Tree → Level → Level
with_part part level = record level { last = Part; parts = parts_of level ++ part ∷ []; run = [] }

-- the branch at hand is closed
abbrev pub with_branch_ended : Level → Level
with_branch_ended level =
    record level { branches = level.branches ++ branch_of (parts_of level) ∷ []; parts = []; run = [] }

abbrev pub with_bar : Level → Level
with_bar level = record (with_branch_ended level) { last = Bar }

-- the alternatives of a level
abbrev pub tree_of : Level → Tree
tree_of level = either_of (level.branches ++ branch_of (parts_of level) ∷ [])

abbrev pub in_inner : (Level → Level) → Levels → Levels
in_inner change levels = record levels { inner = change levels.inner }

-- where the text begins
abbrev pub beginning_levels : Levels
beginning_levels = record { groups = 0; inner = new_level 0 0; outer = [] }

-- behind a `(`
abbrev pub opened : ℕ → Levels → Levels
opened at levels = record {
  groups = levels.groups + 1;
  inner = new_level at (levels.groups + 1);
  outer = levels.inner ∷ levels.outer;
}

-- the levels round a group, of which the innermost gets it as a part
abbrev pub group_given : ℕ → Tree → Option Bound → ℕ → Level → List Level → Levels
group_given number inside bound groups level levels =
    record { groups = groups; inner = with_part (repeated bound (group number inside)) level; outer = levels }

-- behind a `)`
abbrev pub closed : Option Bound → Levels → Levels
closed bound levels = elim (levels.outer) [
  | [] ↦ levels
  | level ∷ others ↦ group_given levels.inner.number (tree_of levels.inner) bound levels.groups level others
]

-- behind an atom: a byte with no bound may still be joined, unless it stands for both its cases
abbrev pub with_item : Bool → Atom → Option Bound → Level → Level
with_item fold (byte b) None =
    if is_folded fold b then with_part (set (both_cases (b ∷ []))) else with_letter b
with_item fold atom bound = with_part (repeated bound (atom_tree fold atom))

abbrev pub item_taken : Bool → Atom → Option Bound → Levels → Levels
item_taken fold atom bound = in_inner (with_item fold atom bound)

-- behind a token that stands at an offset
abbrev pub taken : Bool → ℕ → Token → Levels → Levels
taken fold at (item atom bound) levels = item_taken fold atom bound levels
taken fold at tokens.line_start levels = in_inner (with_part line_start) levels
taken fold at tokens.line_end levels = in_inner (with_part line_end) levels
taken fold at bar levels = in_inner with_bar levels
taken fold at open_group levels = opened at levels
taken fold at (close_group bound) levels = closed bound levels

-- where the levels are in the text
abbrev pub open_of : Level → Open
open_of level = record { at = level.at; number = level.number }

abbrev pub place_of : Levels → Place
place_of levels = record {
  groups = levels.groups;
  inner = open_of levels.inner;
  outer = map open_of levels.outer;
  last = levels.inner.last;
}

-- the levels that a value holds
abbrev pub level_view : held.Level → Level
level_view level = record {
  at = level.at;
  number = level.number;
  last = level.last;
  branches = map view level.branches.items;
  parts = map view level.parts.items;
  run = level.run.items;
}

abbrev pub state : held_by.Reader → Levels
state reader = record {
  groups = reader.groups;
  inner = level_view reader.inner;
  outer = reverse (map level_view reader.outer.items);
}
