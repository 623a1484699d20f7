use Rattle.ere_reach.specs.Leads.{FitsKnown}
use Rattle.ere_reach.proofs.KeepsLemmas.{ClosedSoFar}
use Rattle.ere_reach.proofs.TakenLemmas.{Taken, TakenIn}
use Rattle.ere_reach.proofs.reach.put_closed.Given as goal

abbrev pub invariant-loop-to : goal.invariant-loop-to
invariant-loop-to l = record {
  closed : ClosedSoFar l.closing.site l.closing.group.number l.closing.from l.closing.live.now l.fn.found
      (TakenIn l.row-items l.row-index l.row.held.items l.to-items l.to-index) l.found;
  known : FitsKnown l.closing.site l.closing.from l.ending.known;
}

abbrev pub invariant-loop-row : goal.invariant-loop-row
invariant-loop-row l = record {
  closed : ClosedSoFar l.closing.site l.closing.group.number l.closing.from l.closing.live.now l.fn.found (Taken l.row-items l.row-index) l.found;
  known : FitsKnown l.closing.site l.closing.from l.ending.known;
}
