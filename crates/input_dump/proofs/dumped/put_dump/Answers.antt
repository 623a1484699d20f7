use Rattle.tt_pieces.specs.Telling.{state}
use Rattle.tt_pieces.proofs.PenLemmas.{tells_then}
use Rattle.input_dump.proofs.dumped.put_dump.Goals as goal

pub returns : goal.returns
returns g c =
    let start = (state g.S.Sink c.args.pen.now c.args.sink.now) in
    let one = (state g.S.Sink c.put.new.self c.put.new.sink) in
    let two = (state g.S.Sink c.put_rows.new.pen c.put_rows.new.sink) in
    let end = (state g.S.Sink c.put-2.new.self c.put-2.new.sink) in
    tells_then start one end _ _ c.put.ensures (tells_then one two end _ _ c.put_rows.ensures c.put-2.ensures)
