use Rattle.std.proofs.Common.{◌≡◌, ◌++◌, drop}
use Rattle.std.specs.List.{flat_map}
use Rattle.lit_test.specs.Text.{piece_bytes}
use Rattle.lit_test.proofs.text.add_pieces.Given as goal

abbrev pub invariant-loop-piece : goal.invariant-loop-piece
invariant-loop-piece l =
    l.bytes ++ flat_map piece_bytes (drop l.piece-index l.pieces) ≡ l.fn.bytes ++ flat_map piece_bytes l.pieces
