use Rattle.std.proofs.Common.{◌≡◌, ◌++◌, drop}
use Rattle.tt_outside.proofs.equal.add_pairs.Given as goal

abbrev pub invariant-loop-one : goal.invariant-loop-one
invariant-loop-one l = l.pairs ++ drop l.one-index l.more ≡ l.fn.pairs ++ l.more
