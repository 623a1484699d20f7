use Rattle.std.proofs.Common.{arith}
use Rattle.ere_auto.proofs.RowTableLemmas.{same_lists}
use Rattle.ere_auto.proofs.rows.same_threads.Goals as goal

pub returns : goal.returns
returns c = λ same.
    same_lists c.args.one.now c.args.other.now c.loop-index.invariant.long
    (λ k l. c.loop-index.invariant.nodes k (omega arith)) (λ k l. c.loop-index.invariant.origins k (omega arith))
