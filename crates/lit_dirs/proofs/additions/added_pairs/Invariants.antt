use Rattle.std.proofs.Common.{◌≡◌, ◌++◌, drop}
use Rattle.std.specs.List.{flat_map}
use Rattle.lit_dirs.specs.Tests.{parts_over}
use Rattle.lit_dirs.proofs.additions.added_pairs.Given as goal

abbrev pub invariant-loop-part : goal.invariant-loop-part
invariant-loop-part l =
    l.pairs ++ flat_map (λ part. part.substitutions) (parts_over (drop l.part-index l.part-items) l.below)
    ≡ flat_map (λ part. part.substitutions) (parts_over l.suite.parts l.below)
