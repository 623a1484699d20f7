-- Texts in pieces, of which the bytes are seen.
use Rattle.std.proofs.Common.{◌≡◌, ◌∙◌, ℕ, List, [], ◌∷◌, ◌++◌, append_assoc, append-nil, refl, sym, ap}
use Rattle.std.specs.List.{flat_map}
use Rattle.std.proofs.lemmas.List.Concat.{flat_map-append}
use Rattle.lit_test.specs.Text.{piece_bytes}
use Rattle.lit_test.specs.declared.text.Piece.{Piece}

-- more behind the last piece
pub longer_last : (pieces : List Piece) (last more : List ℕ)
    → flat_map piece_bytes pieces ++ (last ++ more) ≡ (flat_map piece_bytes pieces ++ last) ++ more
longer_last pieces last more = sym (append_assoc (flat_map piece_bytes pieces) last more)

-- the last bytes become a piece with what is shared
pub one_more_piece : (pieces : List Piece) (last more : List ℕ)
    → flat_map piece_bytes (pieces ++ (record { own = last; shared = more }) ∷ []) ++ []
    ≡ (flat_map piece_bytes pieces ++ last) ++ more
one_more_piece pieces last more =
    let piece : Piece = record { own = last; shared = more } in
    append-nil _
    ∙ flat_map-append piece_bytes pieces (piece ∷ [])
    ∙ ap (λ (bytes : List ℕ). flat_map piece_bytes pieces ++ bytes) (append-nil (last ++ more))
    ∙ sym (append_assoc (flat_map piece_bytes pieces) last more)

-- the pieces and then the last bytes
pub none_behind : (before : List ℕ) (pieces : List Piece) (last : List ℕ)
    → (before ++ flat_map piece_bytes pieces) ++ last ≡ before ++ (flat_map piece_bytes pieces ++ last)
none_behind before pieces last = append_assoc before (flat_map piece_bytes pieces) last
