use Rattle.ere_reach.proofs.FrameLemmas.{FramedSoFar}
use Rattle.ere_reach.proofs.TakenLemmas.{Taken}
use Rattle.ere_reach.proofs.frame.framed.Given as goal

abbrev pub invariant-loop-row : goal.invariant-loop-row
invariant-loop-row l =
    FramedSoFar l.frame.own.now l.frame.others.now l.frame.held.now (Taken l.row-items l.row-index) l.found
