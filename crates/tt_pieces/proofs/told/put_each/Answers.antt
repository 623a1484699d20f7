use Rattle.std.proofs.Common.{◌≡◌, [], ◌++◌, ◌+◌, ◌<◌, ℕ, List, length, get_or, take, ◌∙◌, ap, sym}
use Rattle.std.proofs.lemmas.List.{flat_map_more, take_more}
use Rattle.tt_pieces.specs.Pieces.{bytes_in, bytes_of}
use Rattle.tt_pieces.specs.Telling.{state}
use Rattle.tt_pieces.specs.declared.piece.TextPiece.{TextPiece}
use Rattle.tt_pieces.proofs.PenLemmas.{tells_same, tells_then}
use Rattle.tt_pieces.proofs.told.put_each.Goals as goal

-- one piece more
one_more : (pieces : List TextPiece) (i : ℕ) (other : TextPiece) → i < length pieces
    → bytes_in (take i pieces) ++ bytes_of (get_or pieces i other) ≡ bytes_in (take (i + 1) pieces)
one_more pieces i other inside =
    flat_map_more bytes_of [] (take i pieces) (get_or pieces i other) ∙ sym (ap bytes_in (take_more pieces i other inside))

pub loop-piece-preserved : goal.loop-piece-preserved
loop-piece-preserved g c =
    let l = c.loop-piece in
    let before = state g.S.Sink c.args.pen.now c.args.sink.now in
    let now = state g.S.Sink l.pen l.sink in
    let next = state g.S.Sink c.put_piece.new.pen c.put_piece.new.sink in
    tells_same before next _ _ (one_more c.args.pieces.now l.piece-index _ c.loop-piece-test.true)
    (tells_then before now next _ _ l.invariant c.put_piece.ensures)
