use Rattle.ere_reach.proofs.MembersLemmas.{BeyondSoFar}
use Rattle.ere_reach.proofs.TakenLemmas.{Taken, TakenIn}
use Rattle.ere_reach.proofs.reach.put_beyond.Given as goal

abbrev pub invariant-loop-end : goal.invariant-loop-end
invariant-loop-end l =
    BeyondSoFar l.place l.fn.all (TakenIn l.row-items l.row-index l.row.held.items l.end-items l.end-index) l.all

abbrev pub invariant-loop-row : goal.invariant-loop-row
invariant-loop-row l = BeyondSoFar l.place l.fn.all (Taken l.row-items l.row-index) l.all
