use Rattle.std.proofs.Common.{arith}
use Rattle.ere_table.proofs.StandsLemmas.{grows_on}
use Rattle.ere_table.proofs.PutLemmas.{plain_more}
use Rattle.ere_table.proofs.table.NodeTable.put_bytes.Goals as goal

pub loop-left-preserved : goal.loop-left-preserved
loop-left-preserved c = record {
  within = omega arith;
  stands =
      plain_more _ _ _ _ c.loop-left.left _ _ _ c.in_ok-push.ensures.grows (omega arith) (omega arith)
      c.in_ok-push.ensures.node c.loop-left.invariant.stands;
  grows = grows_on _ _ _ c.loop-left.invariant.grows c.in_ok-push.ensures.grows;
}
