-- What a reader believes of blocks, beside the values that compute. Own rules: the cut into parts and into blocks.
use Rattle.std.specs.Prelude.{◌≡◌, Bool, List, [], ◌∷◌, ◌++◌}
use Rattle.std.specs.List.{flat_map}
use Rattle.check_group.specs.declared.directive.Check.{Check}
use Rattle.check_scan.specs.Blocks.{Blocks, blocks_of, labelled, last}
use Rattle.check_scan.specs.Parts.{Part, alone, dags, finish, negative, parts_of, positive}

-- the directives of a part
abbrev pub directives_of : Part → List Check
directives_of (negative check) = check ∷ []
directives_of (positive (alone check)) = check ∷ []
directives_of (positive (dags checks)) = checks
directives_of finish = []

-- the parts of a block are its directives, in order
abbrev pub EachDirectiveOnce : Type 0
EachDirectiveOnce = (end : Bool) (checks : List Check) → flat_map directives_of (parts_of end checks) ≡ checks

-- the directives of blocks
unfoldable pub all_of : Blocks → List Check
all_of (last checks) = checks
all_of (labelled checks label rest) = checks ++ all_of rest

-- the blocks are the directives, in order
abbrev pub EachDirectiveInOneBlock : Type 0
EachDirectiveInOneBlock = (checks : List Check) → all_of (blocks_of checks) ≡ checks
