-- The parts of a block of directives.
-- After LLVM Command Guide, FileCheck: directives match in order, and a run of CHECK-DAG without a CHECK-NOT between is a
-- group. Own rule: NOTs that are pending at the end of the check file are tested up to the end of the input.
use Rattle.std.specs.Prelude.{◌≡◌, ℕ, Bool, if◌then◌else◌, List, [], ◌∷◌, drop, take}
use Rattle.check_group.specs.Alone.{came}
use Rattle.check_group.specs.Changes.{Variables}
use Rattle.check_group.specs.Group.{group_at}
use Rattle.check_group.specs.Matches.{Came}
use Rattle.check_group.specs.declared.directive.Check.{Check}
use Rattle.pattern_parse.specs.declared.demand.Role.{Role}
use Rattle.pattern_parse.specs.declared.demand.Role.TheVariants.{Excluded, Unordered}

-- what is to be found: a directive by itself, or a maximal run of DAGs
pub data Positive : Type 0 where
  alone : Check → Positive
  dags : List Check → Positive

-- a block's parts: NOTs, what is to be found, and the end of the check file
pub data Part : Type 0 where
  negative : Check → Part
  positive : Positive → Part
  finish : Part

-- a DAG joins the run behind it
abbrev pub joined : Check → List Part → List Part
joined check (positive (dags checks) ∷ parts) = positive (dags (check ∷ checks)) ∷ parts
joined check parts = positive (dags (check ∷ [])) ∷ parts

abbrev pub part_before : Check → Role → List Part → List Part
part_before check Excluded parts = negative check ∷ parts
part_before check Unordered parts = joined check parts
part_before check role parts = positive (alone check) ∷ parts

-- the parts of directives, before others
unfoldable pub parts_before : List Check → List Part → List Part
parts_before [] parts = parts
parts_before (check ∷ checks) parts = part_before check check.demand.role (parts_before checks parts)

-- the last block ends where the check file does
abbrev pub ending : Bool → List Part
ending last = if last then finish ∷ [] else []

-- the directives of a block that is the last one or not, as parts
abbrev pub parts_of : Bool → List Check → List Part
parts_of last checks = parts_before checks (ending last)

-- what a positive part comes to at a place
abbrev pub came_of : List ℕ → Variables → ℕ → Positive → Came
came_of text vars place (alone check) = came text vars place check
came_of text vars place (dags checks) = group_at text place vars checks

-- the positive part that directives are
abbrev pub part_by : Role → Check → List Check → Positive
part_by Unordered check checks = dags (check ∷ checks)
part_by role check checks = alone check

abbrev pub part_of : List Check → Positive
part_of [] = dags []
part_of (check ∷ checks) = part_by check.demand.role check checks

-- what a positive part comes to at a place, by its directives and the variables at its start
abbrev pub found_at : List ℕ → ℕ → List Check → Variables → Came
found_at text place part vars = came_of text vars place (part_of part)

-- the part in front holds so many directives, whether the block is the last one or not
abbrev pub IsFirstPart : List Check → ℕ → Type 0
IsFirstPart checks count =
    (last : Bool) → parts_of last checks ≡ positive (part_of (take count checks)) ∷ parts_of last (drop count checks)

-- a directive is a NOT, or a DAG
abbrev pub IsNot : Check → Type 0
IsNot check = check.demand.role ≡ Excluded

abbrev pub IsDag : Check → Type 0
IsDag check = check.demand.role ≡ Unordered

-- directives begin with one that isn't a NOT
abbrev pub BeginsPositive : List Check → Type 0
BeginsPositive [] = ⊥
BeginsPositive (check ∷ checks) = ¬ IsNot check

-- parts begin with no run of DAGs
abbrev pub BeginsOtherwise : List Part → Type 0
BeginsOtherwise (positive (dags checks) ∷ parts) = ⊥
BeginsOtherwise parts = Unit {0}
