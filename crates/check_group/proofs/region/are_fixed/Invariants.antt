use Rattle.std.proofs.Common.{drop}
use Rattle.pattern_parse.specs.PieceView.{items_view}
use Rattle.check_group.specs.Region.{AreFixed}
use Rattle.check_group.proofs.region.are_fixed.Given as goal

abbrev pub invariant-loop-piece : goal.invariant-loop-piece
invariant-loop-piece l = AreFixed (items_view (drop l.piece-index l.pieces)) → AreFixed (items_view l.fn.pieces)
