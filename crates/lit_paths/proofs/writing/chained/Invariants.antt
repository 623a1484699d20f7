use Rattle.std.proofs.Common.{◌≡◌, ◌++◌, drop}
use Rattle.std.specs.List.{flat_map}
use Rattle.lit_paths.proofs.writing.chained.Given as goal

abbrev pub invariant-loop-text : goal.invariant-loop-text
invariant-loop-text l =
    l.chain ++ flat_map (λ one. one.now) (drop l.text-index l.texts) ≡ flat_map (λ one. one.now) l.texts
