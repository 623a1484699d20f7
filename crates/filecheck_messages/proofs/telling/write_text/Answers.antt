use Rattle.tt_pieces.specs.Telling.{state}
use Rattle.tt_pieces.proofs.PenLemmas.{tells_then, told_by}
use Rattle.filecheck_messages.proofs.telling.write_text.Goals as goal

pub returns-clause-ends : goal.returns-clause-ends
returns-clause-ends g c =
    let start = state g.S.Sink c.args.pen.now c.args.sink.now in
    let middle = state g.S.Sink c.put_pieces.new.pen c.put_pieces.new.sink in
    let end = state g.S.Sink c.put_rest.new.pen c.put_rest.new.sink in
    c.finish.ensures.ends _ _
    (told_by g.S.Sink c.args.pen.now c.args.sink.now end _ c.requires (tells_then start middle end _ _ c.put_pieces.ensures c.put_rest.ensures))
