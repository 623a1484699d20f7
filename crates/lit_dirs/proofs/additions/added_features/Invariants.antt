use Rattle.std.proofs.Common.{◌≡◌, ◌++◌, drop}
use Rattle.std.specs.List.{flat_map}
use Rattle.lit_dirs.specs.Tests.{features_of, parts_over}
use Rattle.lit_dirs.proofs.additions.added_features.Given as goal

abbrev pub invariant-loop-part : goal.invariant-loop-part
invariant-loop-part l =
    l.features ++ flat_map (λ part. part.features) (parts_over (drop l.part-index l.part-items) l.below)
    ≡ features_of l.suite l.below
