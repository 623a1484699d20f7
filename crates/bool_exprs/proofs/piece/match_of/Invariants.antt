use Rattle.std.proofs.Common.{◌≡◌, ◌++◌, map}
use Rattle.std.specs.Vec.Iter.{into_iter_items}
use Rattle.ere_tree.specs.View.{view}
use Rattle.bool_exprs.specs.Piece.{tree_of}
use Rattle.bool_exprs.specs.View.{piece_view}
use Rattle.bool_exprs.proofs.piece.match_of.Given as goal

abbrev pub invariant-loop-piece : goal.invariant-loop-piece
invariant-loop-piece l =
    map view l.parts.items ++ map tree_of (map piece_view (into_iter_items l.piece-iterator))
    ≡ map tree_of (map piece_view l.fn.pieces.items)
