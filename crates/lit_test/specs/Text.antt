-- A text in pieces. Own rule: a piece is its own bytes, and behind them those that others hold too.
use Rattle.std.specs.Prelude.{ℕ, List, ◌++◌}
use Rattle.lit_test.specs.declared.text.Piece.{Piece}

abbrev pub piece_bytes : Piece → List ℕ
piece_bytes piece = piece.own ++ piece.shared
