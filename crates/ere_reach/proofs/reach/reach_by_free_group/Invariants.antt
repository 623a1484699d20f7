use Rattle.std.proofs.Common.{[]}
use Rattle.ere_tree.specs.View.{view}
use Rattle.ere_reach.specs.Leads.{FitsKnown}
use Rattle.ere_reach.specs.Memo.{AllHold}
use Rattle.ere_reach.proofs.GroupLemmas.{ClosesSoFar}
use Rattle.ere_reach.proofs.KeepsLemmas.{ClosedSoFar}
use Rattle.ere_reach.proofs.TakenLemmas.{Taken, TakenIn}
use Rattle.ere_reach.proofs.reach.reach_by_free_group.Given as goal

abbrev pub invariant-loop-to : goal.invariant-loop-to
invariant-loop-to l = record {
  closed : ClosedSoFar l.site l.group.number l.from l.live l.initial.found
      (TakenIn [] 0 l.held l.to-items l.to-index) l.found;
  known : FitsKnown l.site l.from l.ending.known;
}

abbrev pub invariant-loop-from : goal.invariant-loop-from
invariant-loop-from l = record {
  found : ClosesSoFar l.site l.group.number (view l.group.inner.now) l.live
      (TakenIn l.row-items l.row-index l.held l.from-items l.from-index) l.found;
  memo : AllHold l.site l.memo;
}

abbrev pub invariant-loop-row : goal.invariant-loop-row
invariant-loop-row l = record {
  found : ClosesSoFar l.site l.group.number (view l.group.inner.now) l.live (Taken l.row-items l.row-index) l.found;
  memo : AllHold l.site l.memo;
}
