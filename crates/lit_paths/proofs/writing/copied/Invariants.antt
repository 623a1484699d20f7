use Rattle.std.proofs.Common.{◌≡◌, ◌++◌, drop}
use Rattle.lit_paths.proofs.writing.copied.Given as goal

abbrev pub invariant-loop-part : goal.invariant-loop-part
invariant-loop-part l = l.copy ++ drop l.part-index l.path ≡ l.path
