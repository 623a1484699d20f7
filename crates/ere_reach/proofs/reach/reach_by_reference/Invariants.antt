use Rattle.std.proofs.Common.{◌≡◌, get_or}
use Rattle.ere_reach.specs.declared.row.Row.{Row}
use Rattle.ere_reach.proofs.ReferLemmas.{RefersSoFar}
use Rattle.ere_reach.proofs.TakenLemmas.{Taken, TakenIn}
use Rattle.ere_reach.proofs.reach.reach_by_reference.Given as goal

abbrev pub invariant-loop-place : goal.invariant-loop-place
invariant-loop-place l =
    (row : Row) → row ≡ get_or l.row-items l.row-index row
    → RefersSoFar l.site l.number l.fold l.live
    (TakenIn l.row-items l.row-index row.held.items l.place-items l.place-index) l.found

abbrev pub invariant-loop-row : goal.invariant-loop-row
invariant-loop-row l = RefersSoFar l.site l.number l.fold l.live (Taken l.row-items l.row-index) l.found
