-- What was read of a name, and what the rest of the text adds to it, is what the whole text says.
-- One piece at a time: each piece that a front has is the whole's next one, and counts of bytes add up.
-- The hard one is `joined_in`: a further piece at the end of those read is the first one of the rest.
use Rattle.std.proofs.Common.{◌≡◌, ℕ, ◌+◌, ◌-◌, ◌<◌, ◌≤◌, suc, zero, List, [], ◌∷◌, ◌++◌, length, drop, Option, Some, None, refl, sym, ap, ◌∙◌, arith, append_assoc, append-nil}
use Rattle.std.specs.Option.{option_map}
use Rattle.bool_exprs.specs.Piece.{Piece, none, refused, piece, front, pieces_from, behind_piece}

-- what was found of a name behind pieces of so many bytes
abbrev pub before : List Piece → ℕ → Option (List Piece × ℕ) → Option (List Piece × ℕ)
before pieces count = option_map (λ found. (pieces ++ found.0, count + found.1))

skipped : (skip : ℕ) (text : List ℕ) → skip ≤ length text → pieces_from skip text ≡ pieces_from 0 (drop skip text)
unfolding pieces_from
skipped zero text h = refl
skipped (suc skip) [] h = absurd (omega arith)
skipped (suc skip) (b ∷ text) h = skipped skip text (omega arith)

pieces_next : (text : List ℕ) (one : Piece) (count : ℕ) → front text ≡ piece one count → 0 < length text → 0 < count
    → count ≤ length text → pieces_from 0 text ≡ behind_piece one count (pieces_from 0 (drop count text))
unfolding pieces_from
pieces_next [] one count is more some fits = absurd (omega arith)
pieces_next (b ∷ text) one zero is more some fits = absurd (omega arith)
pieces_next (b ∷ text) one (suc count) is more some fits =
    let less : suc count - 1 ≡ count = omega arith in
    rw (is, less) (ap (behind_piece one (suc count)) (skipped count text (omega arith)))

pieces_none : (text : List ℕ) → front text ≡ none → 0 < length text → pieces_from 0 text ≡ Some ([], 0)
unfolding pieces_from
pieces_none [] is more = absurd (omega arith)
pieces_none (b ∷ text) is more = rw is refl

pieces_refused : (text : List ℕ) → front text ≡ refused → 0 < length text → pieces_from 0 text ≡ None
unfolding pieces_from
pieces_refused [] is more = absurd (omega arith)
pieces_refused (b ∷ text) is more = rw is refl

pieces_end : (text : List ℕ) → length text ≡ 0 → pieces_from 0 text ≡ Some ([], 0)
unfolding pieces_from
pieces_end [] h = refl
pieces_end (b ∷ text) h = absurd (omega arith)

-- where nothing was read yet
begins_in : (r : Option (List Piece × ℕ)) → before [] 0 r ≡ r
begins_in None = refl
begins_in (Some found) = ap (λ n. Some (found.0, n)) (omega arith)

pub name_begins : (pieces : List Piece) (text : List ℕ) → pieces ≡ []
    → before pieces 0 (pieces_from 0 (drop 0 text)) ≡ pieces_from 0 text
name_begins pieces text empty =
    ap (λ held. before held 0 (pieces_from 0 text)) empty ∙ begins_in (pieces_from 0 text)

joined_in : (pieces : List Piece) (done : ℕ) (one : Piece) (count : ℕ) (r : Option (List Piece × ℕ))
    → before (pieces ++ one ∷ []) (done + count) r ≡ before pieces done (behind_piece one count r)
joined_in pieces done one count None = refl
joined_in pieces done one count (Some found) =
    ap (λ held. Some (held, (done + count) + found.1)) (append_assoc pieces (one ∷ []) found.0)
    ∙ ap (λ n. Some (pieces ++ one ∷ found.0, n)) (omega arith)

-- a piece is taken
pub name_next : (pieces : List Piece) (done : ℕ) (text : List ℕ) (one : Piece) (count : ℕ) → front text ≡ piece one count
    → 0 < length text → 0 < count → count ≤ length text
    → before (pieces ++ one ∷ []) (done + count) (pieces_from 0 (drop count text))
    ≡ before pieces done (pieces_from 0 text)
name_next pieces done text one count is more some fits =
    joined_in pieces done one count (pieces_from 0 (drop count text))
    ∙ ap (before pieces done) (sym (pieces_next text one count is more some fits))

over_in : (pieces : List Piece) (done : ℕ) → before pieces done (Some ([], 0)) ≡ Some (pieces, done)
over_in pieces done = ap (λ held. Some (held, done + 0)) (append-nil pieces) ∙ ap (λ n. Some (pieces, n)) (omega arith)

-- no piece begins, one is refused, or the text ends
pub name_over : (pieces : List Piece) (done : ℕ) (text : List ℕ) → front text ≡ none → 0 < length text
    → before pieces done (pieces_from 0 text) ≡ Some (pieces, done)
name_over pieces done text is more = ap (before pieces done) (pieces_none text is more) ∙ over_in pieces done

pub name_refused : (pieces : List Piece) (done : ℕ) (text : List ℕ) → front text ≡ refused → 0 < length text
    → before pieces done (pieces_from 0 text) ≡ None
name_refused pieces done text is more = ap (before pieces done) (pieces_refused text is more)

pub name_ended : (pieces : List Piece) (done : ℕ) (text : List ℕ) → length text ≡ 0
    → before pieces done (pieces_from 0 text) ≡ Some (pieces, done)
name_ended pieces done text h = ap (before pieces done) (pieces_end text h) ∙ over_in pieces done
