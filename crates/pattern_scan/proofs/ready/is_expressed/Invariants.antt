use Rattle.std.proofs.Common.{◌≡◌, drop}
use Rattle.pattern_parse.specs.PieceView.{items_view}
use Rattle.pattern_scan.specs.Seek.{is_expressed}
use Rattle.pattern_scan.proofs.ready.is_expressed.Given as goal

abbrev pub invariant-loop-piece : goal.invariant-loop-piece
invariant-loop-piece l = is_expressed (items_view (drop l.piece-index l.pieces)) ≡ is_expressed (items_view l.pieces)
