use Rattle.std.proofs.Common.{◌≡◌, ◌++◌, [], MatchOption}
use Rattle.std.specs.Vec.Iter.{into_iter_items}
use Rattle.ere_slow.specs.Slow.{IsMostPreferred}
use Rattle.ere_slow.proofs.slow.most_preferred.Given as goal

abbrev pub invariant-loop-one : goal.invariant-loop-one
invariant-loop-one l =
    MatchOption l.best (l.yielded ≡ []) (IsMostPreferred l.yielded)
    × (l.yielded ++ into_iter_items l.one-iterator ≡ l.fn.found.items)
