use Rattle.std.proofs.Common.{take}
use Rattle.tt_pieces.specs.Pieces.{bytes_in}
use Rattle.tt_pieces.specs.Telling.{Tells, state}
use Rattle.tt_pieces.proofs.told.put_each.Given as goal

-- the pieces so far are told
abbrev pub invariant-loop-piece : goal.invariant-loop-piece
invariant-loop-piece g l =
    Tells (bytes_in (take l.piece-index l.pieces)) (state g.S.Sink l.fn.pen l.fn.sink) (state g.S.Sink l.pen l.sink)
