use Rattle.std.proofs.Common.{◌≡◌, map, take}
use Rattle.lit_pool.specs.Pool.{told_of}
use Rattle.lit_pool.proofs.told.reported.Given as goal

abbrev pub invariant-loop-trial : goal.invariant-loop-trial
invariant-loop-trial l =
    map (λ one. told_of one.trial.now) l.all.items ≡ map told_of (take l.trial-index l.trials)
