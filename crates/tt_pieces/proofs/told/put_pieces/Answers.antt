use Rattle.tt_pieces.specs.Telling.{state}
use Rattle.tt_pieces.proofs.PenLemmas.{tells_same}
use Rattle.tt_pieces.proofs.told.put_pieces.Goals as goal

pub returns : goal.returns
returns g c =
    tells_same (state g.S.Sink c.args.pen.now c.args.sink.now) (state g.S.Sink c.put_each.new.pen c.put_each.new.sink) _ _
    c.as_slice.ensures c.put_each.ensures
