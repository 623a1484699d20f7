use Rattle.std.proofs.Common.{◌∙◌, ◌+◌, ◌∷◌, List, ap, drop, subst, sym}
use Rattle.pattern_parse.specs.Formats.{HasPlaces, by_places}
use Rattle.pattern_parse.specs.PieceView.{items_view}
use Rattle.pattern_parse.specs.Pieces.{with_formats}
use Rattle.pattern_parse.specs.declared.pattern.Piece.{Piece}
use Rattle.pattern_parse.proofs.FormatsLemmas.{have_places_stay, split_pieces}
use Rattle.pattern_parse.proofs.formats.set_formats.Goals as goal

pub loop-piece-preserved : goal.loop-piece-preserved
loop-piece-preserved c =
    let old = c.loop-piece.held.entries in
    let new = c.set_piece_format.new.held.entries in
    let rest : List Piece = drop (c.loop-piece.piece-index + 1) c.args.pieces.now in
    let here = split_pieces c.args.pieces.now c.loop-piece.piece-index c.piece-item.result c.loop-piece-test.true
    c.piece-item.is in
    let both : HasPlaces old (c.piece-item.result ∷ rest) =
    subst (HasPlaces old) here c.loop-piece.invariant.has in
    record {
      has = have_places_stay old new c.set_piece_format.ensures.stays rest both.1;
      set = ap (λ m. with_formats m (items_view rest)) c.set_piece_format.ensures.set
          ∙ sym (ap (λ ps. with_formats (by_places old) (items_view ps)) here) ∙ c.loop-piece.invariant.set;
    }
