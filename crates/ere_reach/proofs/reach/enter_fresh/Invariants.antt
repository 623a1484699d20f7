use Rattle.std.proofs.Common.{take}
use Rattle.ere_reach.proofs.EnteredLemmas.{EntersSoFar}
use Rattle.ere_reach.proofs.RowsLemmas.{Fresh}
use Rattle.ere_reach.specs.Rows.{HasAt}
use Rattle.ere_reach.proofs.reach.enter_fresh.Given as goal

abbrev pub invariant-loop-row : goal.invariant-loop-row
invariant-loop-row l = EntersSoFar l.read l.fn.entered (HasAt Fresh (take l.row-index l.row-items)) l.entered
