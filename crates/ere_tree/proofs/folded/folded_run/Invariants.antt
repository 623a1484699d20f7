use Rattle.std.proofs.Common.{◌≡◌, [], drop}
use Rattle.ere_tree.specs.Folded.{folded_parts}
use Rattle.ere_tree.specs.Grammar.{branch_of}
use Rattle.ere_tree.specs.Levels.{level_view}
use Rattle.ere_tree.proofs.LevelLemmas.{finished}
use Rattle.ere_tree.proofs.folded.folded_run.Given as goal

abbrev pub invariant-loop-byte : goal.invariant-loop-byte
invariant-loop-byte l =
    finished (level_view l.level) (folded_parts (drop l.byte-index l.bytes)) [] ≡ branch_of (folded_parts l.bytes)
