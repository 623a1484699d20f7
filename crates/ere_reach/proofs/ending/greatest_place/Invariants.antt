use Rattle.std.proofs.Common.{List}
use Rattle.ere_reach.specs.declared.held.Held.{Held}
use Rattle.ere_reach.proofs.EndingLemmas.{IsGreatestOf}
use Rattle.ere_reach.proofs.TakenLemmas.{Taken, TakenIn}
use Rattle.ere_reach.proofs.ending.greatest_place.Given as goal

abbrev pub invariant-loop-row : goal.invariant-loop-row
invariant-loop-row l = IsGreatestOf (Taken l.row-items l.row-index) l.greatest

abbrev pub invariant-loop-place : goal.invariant-loop-place
invariant-loop-place l = (held : List Held)
    → IsGreatestOf (TakenIn l.row-items l.row-index held l.place-items l.place-index) l.greatest
