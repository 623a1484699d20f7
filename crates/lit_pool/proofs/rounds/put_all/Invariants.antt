use Rattle.std.proofs.Common.{◌≡◌, take}
use Rattle.lit_desk.specs.Desk.{PutFrom}
use Rattle.lit_pool.proofs.rounds.put_all.Given as goal

abbrev pub invariant-loop-trial : goal.invariant-loop-trial
invariant-loop-trial g l = record {
  taken : l.taken ≡ l.trial-index;
  put : PutFrom g.D.Desk.took l.fn.desk l.first (take l.taken l.trials) l.desk;
}
