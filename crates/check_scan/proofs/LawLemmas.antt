-- The laws of parts and blocks: each holds each directive once, in order. By induction on the directives.
use Rattle.std.proofs.Common.{◌≡◌, true, false, List, [], ◌∷◌, refl, ◌∙◌, ap}
use Rattle.std.specs.List.{flat_map}
use Rattle.check_group.specs.declared.directive.Check.{Check}
use Rattle.pattern_parse.specs.declared.demand.Role.{Role}
use Rattle.pattern_parse.specs.declared.demand.Role.TheVariants.{Sought, Excluded, Unordered, Label}
use Rattle.check_scan.specs.Blocks.{Blocks, block_before, blocks_of, in_first, labelled, last}
use Rattle.check_scan.specs.Laws.{EachDirectiveInOneBlock, EachDirectiveOnce, all_of, directives_of}
use Rattle.check_scan.specs.Parts.{Part, alone, dags, finish, joined, negative, part_before, parts_before, parts_of, positive}

flat-joined : (check : Check) (parts : List Part) → flat_map directives_of (joined check parts) ≡ check ∷ flat_map directives_of parts
flat-joined check [] = refl
flat-joined check (negative c ∷ parts) = refl
flat-joined check (positive (alone c) ∷ parts) = refl
flat-joined check (positive (dags cs) ∷ parts) = refl
flat-joined check (finish ∷ parts) = refl

flat-part : (check : Check) (role : Role) (parts : List Part)
    → flat_map directives_of (part_before check role parts) ≡ check ∷ flat_map directives_of parts
flat-part check Sought parts = refl
flat-part check Excluded parts = refl
flat-part check Unordered parts = flat-joined check parts
flat-part check Label parts = refl

pub once : EachDirectiveOnce
unfolding parts_before
once true [] = refl
once false [] = refl
once end (check ∷ checks) = flat-part check check.demand.role (parts_of end checks) ∙ ap (λ cs. check ∷ cs) (once end checks)

all-in_first : (check : Check) (blocks : Blocks) → all_of (in_first check blocks) ≡ check ∷ all_of blocks
unfolding all_of
all-in_first check (last checks) = refl
all-in_first check (labelled checks label rest) = refl

all-before : (check : Check) (role : Role) (blocks : Blocks) → all_of (block_before check role blocks) ≡ check ∷ all_of blocks
unfolding all_of
all-before check Sought blocks = all-in_first check blocks
all-before check Excluded blocks = all-in_first check blocks
all-before check Unordered blocks = all-in_first check blocks
all-before check Label blocks = refl

pub in_one_block : EachDirectiveInOneBlock
unfolding blocks_of all_of
in_one_block [] = refl
in_one_block (check ∷ checks) = all-before check check.demand.role (blocks_of checks) ∙ ap (λ cs. check ∷ cs) (in_one_block checks)
