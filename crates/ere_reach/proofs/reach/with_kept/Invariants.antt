use Rattle.ere_reach.proofs.KeepsLemmas.{KeptSoFar}
use Rattle.ere_reach.proofs.TakenLemmas.{Taken}
use Rattle.ere_reach.proofs.reach.with_kept.Given as goal

abbrev pub invariant-loop-row : goal.invariant-loop-row
invariant-loop-row l = KeptSoFar l.live (Taken l.row-items l.row-index) l.found
