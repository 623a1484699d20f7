-- Texts in pieces. Own rule: they are told one behind the other, a number by its decimal digits.
use Rattle.std.specs.Prelude.{ℕ, List, replicate}
use Rattle.std.specs.Fmt.{decimal}
use Rattle.std.specs.List.{flat_map}
use Rattle.tt_pieces.specs.declared.piece.TextPiece.{TextPiece}
use Rattle.tt_pieces.specs.declared.piece.TextPiece.TheVariants.{Bytes, Number, Blanks}

-- the bytes of a piece
abbrev pub bytes_of : TextPiece → List ℕ
bytes_of (Bytes bytes) = bytes.now
bytes_of (Number number) = decimal number
bytes_of (Blanks count) = replicate count 32

-- the bytes of pieces, joined
abbrev pub bytes_in : List TextPiece → List ℕ
bytes_in pieces = flat_map bytes_of pieces
