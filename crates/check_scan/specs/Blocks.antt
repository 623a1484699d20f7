-- The blocks by labels.
-- After LLVM Command Guide, FileCheck, CHECK-LABEL: labels cut the input and the check file into blocks.
use Rattle.std.specs.Prelude.{◌≡◌, ◌<◌, ℕ, ◌+◌, List, [], ◌∷◌, length, take, drop, get_or, Option, Some, None}
use Rattle.check_group.specs.declared.directive.Check.{Check}
use Rattle.pattern_parse.specs.declared.demand.Role.{Role}
use Rattle.pattern_parse.specs.declared.demand.Role.TheVariants.{Label}

-- directives by blocks: those up to and with a label, and the blocks behind it; or those behind the last label
pub data Blocks : Type 0 where
  last : List Check → Blocks
  labelled : List Check → Check → Blocks → Blocks

-- a directive that isn't a label stands in the first block
abbrev pub in_first : Check → Blocks → Blocks
in_first check (last checks) = last (check ∷ checks)
in_first check (labelled checks label rest) = labelled (check ∷ checks) label rest

abbrev pub block_before : Check → Role → Blocks → Blocks
block_before check Label rest = labelled (check ∷ []) check rest
block_before check role rest = in_first check rest

unfoldable pub blocks_of : List Check → Blocks
blocks_of [] = last []
blocks_of (check ∷ checks) = block_before check check.demand.role (blocks_of checks)

abbrev pub IsLabel : Check → Type 0
IsLabel check = check.demand.role ≡ Label

-- where the first block ends, if it isn't the last one
abbrev pub FirstLabel : List Check → Option ℕ → Type 0
FirstLabel checks None = blocks_of checks ≡ last checks
FirstLabel checks (Some at) = (at < length checks) × ((label : Check) → label ≡ get_or checks at label →
    blocks_of checks ≡ labelled (take (at + 1) checks) label (blocks_of (drop (at + 1) checks)))
