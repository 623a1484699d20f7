-- Canonical text, said of a text as a whole.
-- After LLVM Command Guide, FileCheck, --strict-whitespace, as Canonical.antt: a text is cut, in the only way there is,
-- into pairs `\r\n`, maximal runs of blanks, and other single bytes, and something stands for each piece.
use Rattle.std.specs.Prelude.{◌≡◌, ⊤, ℕ, Bool, true, false, ◌==◌, ◌&&◌, if◌then◌else◌, List, [], ◌∷◌, ◌++◌, All}
use Rattle.check_lines.specs.Canonical.{is_blank}

-- a piece of a text: a pair `\r\n`, a run of blanks (its first and the others), or another single byte
pub data Piece : Type 0 where
  pair : Piece
  run : ℕ → List ℕ → Piece
  single : ℕ → Piece

-- the bytes of a piece
abbrev pub bytes_of : Piece → List ℕ
bytes_of pair = 13 ∷ 10 ∷ []
bytes_of (run first others) = first ∷ others
bytes_of (single byte) = byte ∷ []

-- what stands for a piece: a newline for a pair; one space for a run, or with `strict` the run itself; and another
-- byte itself
abbrev pub stands_for : Bool → Piece → List ℕ
stands_for strict pair = 10 ∷ []
stands_for strict (run first others) = if strict then first ∷ others else 32 ∷ []
stands_for strict (single byte) = byte ∷ []

-- the bytes of pieces, in order
unfoldable pub bytes_in : List Piece → List ℕ
bytes_in [] = []
bytes_in (piece ∷ later) = bytes_of piece ++ bytes_in later

-- what stands for pieces, in order
unfoldable pub standing : Bool → List Piece → List ℕ
standing strict [] = []
standing strict (piece ∷ later) = stands_for strict piece ++ standing strict later

-- whether a text begins with a newline
abbrev pub begins_with_newline : List ℕ → Bool
begins_with_newline [] = false
begins_with_newline (byte ∷ rest) = byte == 10

-- whether a text begins with a blank
abbrev pub begins_with_blank : List ℕ → Bool
begins_with_blank [] = false
begins_with_blank (byte ∷ rest) = is_blank byte

-- a piece before the text behind it: a run is of blanks and maximal; another byte is no blank, and not the `\r` of
-- a pair
abbrev pub IsPiece : Piece → List ℕ → Type 0
IsPiece pair behind = ⊤
IsPiece (run first others) behind =
    All (λ byte. is_blank byte ≡ true) (first ∷ others) × (begins_with_blank behind ≡ false)
IsPiece (single byte) behind = (is_blank byte ≡ false) × (byte == 13 && begins_with_newline behind ≡ false)

-- each of the pieces is one, before the bytes of those behind it
unfoldable pub ArePieces : List Piece → Type 0
ArePieces [] = ⊤
ArePieces (piece ∷ later) = IsPiece piece (bytes_in later) × ArePieces later

-- these pieces are the cut of a text
abbrev pub IsCut : List ℕ → List Piece → Type 0
IsCut text pieces = (bytes_in pieces ≡ text) × ArePieces pieces

-- a text has a cut, and what stands for its pieces is this
abbrev pub IsOfCut : Bool → List ℕ → List ℕ → Type 0
IsOfCut strict text out = (pieces : List Piece) × IsCut text pieces × (standing strict pieces ≡ out)
