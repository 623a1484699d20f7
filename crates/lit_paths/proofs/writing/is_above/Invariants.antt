use Rattle.std.proofs.Common.{◌≡◌, drop}
use Rattle.lit_paths.specs.Paths.{is_above}
use Rattle.lit_paths.proofs.writing.is_above.Given as goal

abbrev pub invariant-loop-part : goal.invariant-loop-part
invariant-loop-part l = is_above (drop l.part-index l.dir) l.rest ≡ is_above l.dir l.path
