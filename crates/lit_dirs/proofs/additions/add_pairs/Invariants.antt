use Rattle.std.proofs.Common.{◌≡◌, ◌++◌, drop}
use Rattle.lit_dirs.proofs.additions.add_pairs.Given as goal

abbrev pub invariant-loop-pair : goal.invariant-loop-pair
invariant-loop-pair l = l.pairs ++ drop l.pair-index l.more ≡ l.fn.pairs ++ l.more
