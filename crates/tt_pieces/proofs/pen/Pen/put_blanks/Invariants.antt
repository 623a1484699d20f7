use Rattle.std.proofs.Common.{◌≤◌, ◌-◌, replicate}
use Rattle.tt_pieces.specs.Telling.{Tells, state}
use Rattle.tt_pieces.proofs.pen.Pen.put_blanks.Given as goal

-- the blanks that aren't left are told
abbrev pub invariant-loop-left : goal.invariant-loop-left
invariant-loop-left g l = record {
  within : l.left ≤ l.count;
  told : Tells (replicate (l.count - l.left) 32) (state g.S.Sink l.fn.self l.fn.sink) (state g.S.Sink l.self l.sink);
}

abbrev pub decreases-loop-left : goal.decreases-loop-left
decreases-loop-left g l = l.left
