use Rattle.std.proofs.Common.{◌≡◌, drop}
use Rattle.pattern_parse.specs.PieceView.{items_view}
use Rattle.pattern_instance.specs.Missing.{uses_names}
use Rattle.pattern_instance.proofs.missing.uses_names.Given as goal

abbrev pub invariant-loop-piece : goal.invariant-loop-piece
invariant-loop-piece l = uses_names (items_view (drop l.piece-index l.pieces)) ≡ uses_names (items_view l.pieces)
