use Rattle.std.proofs.Common.{◌≡◌, ◌++◌, ℕ, List, drop}
use Rattle.lit_paths.specs.Paths.{slashed}
use Rattle.lit_paths.proofs.writing.behind_path.Given as goal

abbrev pub invariant-loop-part : goal.invariant-loop-part
invariant-loop-part l =
    (rest : List ℕ) → l.text ≡ slashed l.path ++ rest → l.rest ≡ slashed (drop l.part-index l.path) ++ rest
