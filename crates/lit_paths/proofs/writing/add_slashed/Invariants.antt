use Rattle.std.proofs.Common.{◌≡◌, ◌++◌, drop}
use Rattle.lit_paths.specs.Paths.{slashed}
use Rattle.lit_paths.proofs.writing.add_slashed.Given as goal

abbrev pub invariant-loop-part : goal.invariant-loop-part
invariant-loop-part l = l.text ++ slashed (drop l.part-index l.path) ≡ l.fn.text ++ slashed l.path
