use Rattle.std.proofs.Common.{◌≡◌, drop}
use Rattle.pattern_parse.specs.Formats.{HasPlaces, by_places}
use Rattle.pattern_parse.specs.PieceView.{items_view}
use Rattle.pattern_parse.specs.Pieces.{with_formats}
use Rattle.pattern_parse.proofs.formats.set_formats.Given as goal

abbrev pub invariant-loop-piece : goal.invariant-loop-piece
invariant-loop-piece l = record {
  has : HasPlaces l.held.entries (drop l.piece-index l.pieces);
  set : with_formats (by_places l.held.entries) (items_view (drop l.piece-index l.pieces))
      ≡ with_formats (by_places l.fn.held.entries) (items_view l.pieces);
}
