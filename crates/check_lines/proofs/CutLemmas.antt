-- The cut of a text: there is one, there is no other, and canonical text is what stands for its pieces.
-- By induction over the pieces, and over the text from its end; each byte is decided by the next one alone.
-- The hard one is `run_one`, where of a run of blanks the last is kept, and stands for the run.
use Rattle.std.proofs.Common.{◌≡◌, ℕ, Bool, true, false, not, ◌&&◌, ◌||◌, eqb, cond, List, [], ◌∷◌, ◌++◌, get_or, refl, sym, ◌∙◌, ap, subst, arith, drop}
use Rattle.std.specs.Prelude.{All}
use Rattle.std.proofs.lemmas.Bool.Decides.{nat_tests}
use Rattle.std.proofs.lemmas.List.Elements.{All-head, All-tail, All-cons, All-nil}
use Rattle.check_lines.specs.Canonical.{canon, is_blank, is_kept, shown}
use Rattle.check_lines.specs.Cut.{Piece, pair, run, single, bytes_in, standing, begins_with_blank, begins_with_newline, ArePieces, IsCut, IsOfCut}

abbrev IsBlank : ℕ → Type 0
IsBlank byte = is_blank byte ≡ true

not_return : (byte : ℕ) → IsBlank byte → eqb byte 13 ≡ false
not_return byte blank = grind (arith, nat_tests)

not_newline : (byte : ℕ) → IsBlank byte → eqb byte 10 ≡ false
not_newline byte blank = grind (arith, nat_tests)

-- ---- a byte that is kept, and one that isn't

kept : (strict : Bool) (byte : ℕ) (rest : List ℕ) → is_kept strict byte (get_or rest 0 0) ≡ true
    → canon strict (byte ∷ rest) ≡ shown strict byte ∷ canon strict rest
unfolding canon
kept strict byte rest is = ap (λ t. cond t (shown strict byte ∷ canon strict rest) (canon strict rest)) is

dropped : (strict : Bool) (byte : ℕ) (rest : List ℕ) → is_kept strict byte (get_or rest 0 0) ≡ false
    → canon strict (byte ∷ rest) ≡ canon strict rest
unfolding canon
dropped strict byte rest isnt = ap (λ t. cond t (shown strict byte ∷ canon strict rest) (canon strict rest)) isnt

begins_by_first : (rest : List ℕ) → begins_with_newline rest ≡ eqb (get_or rest 0 0) 10
begins_by_first [] = refl
begins_by_first (byte ∷ rest) = refl

blank_by_first : (rest : List ℕ) → begins_with_blank rest ≡ is_blank (get_or rest 0 0)
blank_by_first [] = refl
blank_by_first (byte ∷ rest) = refl

blank_tests : (strict ends next : Bool) → (not ((false && ends) || ((not strict && true) && next))) ≡ (strict || not next)
blank_tests true ends next = refl
blank_tests false ends next = refl

-- without `strict` a blank is kept where none follows
kept_blank : (strict : Bool) (byte next : ℕ) → IsBlank byte → is_kept strict byte next ≡ (strict || not (is_blank next))
kept_blank strict byte next blank =
    ap (λ t. not ((t && eqb next 10) || ((not strict && is_blank byte) && is_blank next))) (not_return byte blank)
    ∙ ap (λ t. not ((false && eqb next 10) || ((not strict && t) && is_blank next))) blank
    ∙ blank_tests strict (eqb next 10) (is_blank next)

other_tests : (strict next : Bool) → not (false || ((not strict && false) && next)) ≡ true
other_tests true next = refl
other_tests false next = refl

-- a byte that is no blank, and not the `\r` of a pair, is kept
kept_other : (strict : Bool) (byte : ℕ) (rest : List ℕ) → is_blank byte ≡ false
    → eqb byte 13 && begins_with_newline rest ≡ false → is_kept strict byte (get_or rest 0 0) ≡ true
kept_other strict byte rest other alone =
    let next = get_or rest 0 0 in
    ap (λ t. not ((eqb byte 13 && eqb next 10) || ((not strict && t) && is_blank next))) other
    ∙ ap (λ t. not (t || ((not strict && false) && is_blank next)))
    (ap (λ t. eqb byte 13 && t) (sym (begins_by_first rest)) ∙ alone)
    ∙ other_tests strict (is_blank next)

shown_other : (strict : Bool) (byte : ℕ) → is_blank byte ≡ false → shown strict byte ≡ byte
shown_other true byte other = refl
shown_other false byte other = ap (λ t. cond t 32 byte) other

single_stands : (strict : Bool) (byte : ℕ) (rest : List ℕ) → is_blank byte ≡ false
    → eqb byte 13 && begins_with_newline rest ≡ false → canon strict (byte ∷ rest) ≡ byte ∷ canon strict rest
single_stands strict byte rest other alone =
    kept strict byte rest (kept_other strict byte rest other alone)
    ∙ ap (λ b. b ∷ canon strict rest) (shown_other strict byte other)

-- ---- canonical text is what stands for the pieces

run_strict : (blanks rest : List ℕ) → All IsBlank blanks → canon true (blanks ++ rest) ≡ blanks ++ canon true rest
run_strict [] rest are = refl
run_strict (byte ∷ blanks) rest are =
    kept true byte (blanks ++ rest) (kept_blank true byte _ (All-head IsBlank byte blanks are))
    ∙ ap (λ l. byte ∷ l) (run_strict blanks rest (All-tail IsBlank byte blanks are))

run_one : (first : ℕ) (others rest : List ℕ) → All IsBlank (first ∷ others) → begins_with_blank rest ≡ false
    → canon false ((first ∷ others) ++ rest) ≡ 32 ∷ canon false rest
run_one first [] rest are ends =
    let blank : IsBlank first = All-head IsBlank first [] are in
    kept false first rest (kept_blank false first _ blank ∙ ap not (sym (blank_by_first rest) ∙ ends))
    ∙ ap (λ t. cond t 32 first ∷ canon false rest) blank
run_one first (next ∷ others) rest are ends =
    let later = All-tail IsBlank first (next ∷ others) are in
    dropped false first (next ∷ others ++ rest) (kept_blank false first next (All-head IsBlank first (next ∷ others) are)
    ∙ ap not (All-head IsBlank next others later))
    ∙ run_one next others rest later ends

canon_of_pieces : (strict : Bool) (pieces : List Piece) → ArePieces pieces
    → canon strict (bytes_in pieces) ≡ standing strict pieces
unfolding canon bytes_in standing ArePieces
canon_of_pieces strict [] are = refl
canon_of_pieces strict (pair ∷ later) are =
    dropped strict 13 (10 ∷ bytes_in later) refl ∙ single_stands strict 10 (bytes_in later) refl refl
    ∙ ap (λ l. 10 ∷ l) (canon_of_pieces strict later are.1)
canon_of_pieces strict (single byte ∷ later) are =
    single_stands strict byte (bytes_in later) are.0.0 are.0.1 ∙ ap (λ l. byte ∷ l) (canon_of_pieces strict later are.1)
canon_of_pieces true (run first others ∷ later) are =
    run_strict (first ∷ others) (bytes_in later) are.0.0
    ∙ ap (λ l. (first ∷ others) ++ l) (canon_of_pieces true later are.1)
canon_of_pieces false (run first others ∷ later) are =
    run_one first others (bytes_in later) are.0.0 are.0.1 ∙ ap (λ l. 32 ∷ l) (canon_of_pieces false later are.1)

-- a byte before pieces is cut with them
abbrev HasCut : List ℕ → Type 0
HasCut text = (pieces : List Piece) × IsCut text pieces

one_blank : (byte : ℕ) → IsBlank byte → All IsBlank (byte ∷ [])
one_blank byte blank = All-cons IsBlank byte [] blank (All-nil IsBlank)

put_blank : (byte : ℕ) (pieces : List Piece) → ArePieces pieces → IsBlank byte → HasCut (byte ∷ bytes_in pieces)
unfolding bytes_in ArePieces
put_blank byte [] are blank = (run byte [] ∷ [], (refl, ((one_blank byte blank, refl), are)))
put_blank byte (pair ∷ later) are blank = (run byte [] ∷ pair ∷ later, (refl, ((one_blank byte blank, refl), are)))
put_blank byte (run first others ∷ later) are blank =
    let blanks = All-cons IsBlank byte (first ∷ others) blank are.0.0 in
    (run byte (first ∷ others) ∷ later, (refl, ((blanks, are.0.1), are.1)))
put_blank byte (single next ∷ later) are blank =
    (run byte [] ∷ single next ∷ later, (refl, ((one_blank byte blank, are.0.0), are)))

true_is_not_false : true ≡ false → ⊥
true_is_not_false same = cc

no_both : (b c : Bool) → c ≡ false → b && c ≡ true → ⊥
no_both true c fails both = true_is_not_false (sym both ∙ fails)
no_both false c fails both = cc

both_are : (b c : Bool) → b && c ≡ true → (b ≡ true) × (c ≡ true)
both_are true c both = (refl, both)
both_are false c both = cc

number_is : (n k : ℕ) → eqb n k ≡ true → k ≡ n
number_is n k is = grind (arith, nat_tests)

put_return : (byte : ℕ) (pieces : List Piece) → ArePieces pieces
    → eqb byte 13 && begins_with_newline (bytes_in pieces) ≡ true
    → HasCut (byte ∷ bytes_in pieces)
unfolding bytes_in ArePieces
put_return byte [] are both = absurd (no_both (eqb byte 13) false refl both)
put_return byte (pair ∷ later) are both = absurd (no_both (eqb byte 13) false refl both)
put_return byte (run first others ∷ later) are both =
    absurd (no_both (eqb byte 13) (eqb first 10) (not_newline first (All-head IsBlank first others are.0.0)) both)
put_return byte (single next ∷ later) are both =
    let tests = both_are (eqb byte 13) (eqb next 10) both in
    let same : 13 ∷ 10 ∷ bytes_in later ≡ byte ∷ next ∷ bytes_in later =
    ap (λ n. n ∷ 10 ∷ bytes_in later) (number_is byte 13 tests.0)
    ∙ ap (λ n. byte ∷ n ∷ bytes_in later) (number_is next 10 tests.1) in
    (pair ∷ later, (same, (tt, are.1)))

put_other : (byte : ℕ) (pieces : List Piece) → ArePieces pieces → is_blank byte ≡ false
    → (of_pair : Bool) → eqb byte 13 && begins_with_newline (bytes_in pieces) ≡ of_pair
    → HasCut (byte ∷ bytes_in pieces)
unfolding bytes_in ArePieces
put_other byte pieces are other true both = put_return byte pieces are both
put_other byte pieces are other false alone = (single byte ∷ pieces, (refl, ((other, alone), are)))

put_byte : (byte : ℕ) (pieces : List Piece) → ArePieces pieces → (blank : Bool) → is_blank byte ≡ blank
    → HasCut (byte ∷ bytes_in pieces)
put_byte byte pieces are true blank = put_blank byte pieces are blank
put_byte byte pieces are false other =
    put_other byte pieces are other (eqb byte 13 && begins_with_newline (bytes_in pieces)) refl

-- there is a cut of each text
has_cut : (text : List ℕ) → HasCut text
unfolding bytes_in ArePieces
has_cut [] = ([], (refl, tt))
has_cut (byte ∷ rest) =
    let of_rest = has_cut rest in
    subst (λ l. HasCut (byte ∷ l)) of_rest.1.0 (put_byte byte of_rest.0 of_rest.1.1 (is_blank byte) refl)

-- and canonical text is given by it
pub canon_of_cut : (strict : Bool) (text out : List ℕ) → canon strict text ≡ out → IsOfCut strict text out
canon_of_cut strict text out is =
    let of_text = has_cut text in
    let stands : standing strict of_text.0 ≡ out =
    sym (canon_of_pieces strict of_text.0 of_text.1.1) ∙ ap (canon strict) of_text.1.0 ∙ is in
    (of_text.0, of_text.1, stands)

-- the cut, byte by byte from the end
onto_run : ℕ → List Piece → List Piece
onto_run byte [] = run byte [] ∷ []
onto_run byte (pair ∷ later) = run byte [] ∷ pair ∷ later
onto_run byte (run first others ∷ later) = run byte (first ∷ others) ∷ later
onto_run byte (single next ∷ later) = run byte [] ∷ single next ∷ later

cut_before : ℕ → List Piece → List Piece
cut_before byte pieces = cond (is_blank byte) (onto_run byte pieces)
    (cond (eqb byte 13 && begins_with_newline (bytes_in pieces)) (pair ∷ drop 1 pieces) (single byte ∷ pieces))

cut_of : List ℕ → List Piece
cut_of [] = []
cut_of (byte ∷ rest) = cut_before byte (cut_of rest)

before_blank : (byte : ℕ) (pieces : List Piece) → IsBlank byte → cut_before byte pieces ≡ onto_run byte pieces
unfolding cut_before
before_blank byte pieces blank =
    ap (λ t. cond t (onto_run byte pieces)
    (cond (eqb byte 13 && begins_with_newline (bytes_in pieces)) (pair ∷ drop 1 pieces) (single byte ∷ pieces))) blank

before_single : (byte : ℕ) (pieces : List Piece) → is_blank byte ≡ false
    → eqb byte 13 && begins_with_newline (bytes_in pieces) ≡ false
    → cut_before byte pieces ≡ single byte ∷ pieces
unfolding cut_before
before_single byte pieces other alone =
    ap (λ t. cond t (onto_run byte pieces)
    (cond (eqb byte 13 && begins_with_newline (bytes_in pieces)) (pair ∷ drop 1 pieces) (single byte ∷ pieces))) other
    ∙ ap (λ t. cond t (pair ∷ drop 1 pieces) (single byte ∷ pieces)) alone

before_pair : (pieces : List Piece) → cut_before 13 (cut_before 10 pieces) ≡ pair ∷ pieces
unfolding cut_before bytes_in
before_pair pieces = refl

run_ends : (byte : ℕ) (later : List Piece) → ArePieces later → begins_with_blank (bytes_in later) ≡ false
    → onto_run byte later ≡ run byte [] ∷ later
unfolding onto_run bytes_in ArePieces
run_ends byte [] are ends = refl
run_ends byte (pair ∷ later) are ends = refl
run_ends byte (single next ∷ later) are ends = refl
run_ends byte (run first others ∷ later) are ends =
    let blank : IsBlank first = All-head IsBlank first others are.0.0 in
    absurd (no_both true (is_blank first) ends blank)

cut_of_run : (first : ℕ) (others : List ℕ) (later : List Piece) → All IsBlank (first ∷ others) → ArePieces later
    → begins_with_blank (bytes_in later) ≡ false → cut_of (bytes_in later) ≡ later
    → cut_of ((first ∷ others) ++ bytes_in later) ≡ run first others ∷ later
unfolding cut_of onto_run
cut_of_run first [] later blanks are ends same =
    ap (cut_before first) same ∙ before_blank first later (All-head IsBlank first [] blanks)
    ∙ run_ends first later are ends
cut_of_run first (next ∷ others) later blanks are ends same =
    ap (cut_before first) (cut_of_run next others later (All-tail IsBlank first (next ∷ others) blanks) are ends same)
    ∙ before_blank first (run next others ∷ later) (All-head IsBlank first (next ∷ others) blanks)

cut_of_pieces : (pieces : List Piece) → ArePieces pieces → cut_of (bytes_in pieces) ≡ pieces
unfolding cut_of bytes_in ArePieces
cut_of_pieces [] are = refl
cut_of_pieces (pair ∷ later) are = ap (λ l. cut_before 13 (cut_before 10 l)) (cut_of_pieces later are.1)
    ∙ before_pair later
cut_of_pieces (run first others ∷ later) are =
    cut_of_run first others later are.0.0 are.1 are.0.1 (cut_of_pieces later are.1)
cut_of_pieces (single byte ∷ later) are =
    ap (cut_before byte) (cut_of_pieces later are.1) ∙ before_single byte later are.0.0 are.0.1

-- there is no other cut
pub one_cut : (text : List ℕ) (one other : List Piece) → IsCut text one → IsCut text other → one ≡ other
one_cut text one other is is_too =
    sym (cut_of_pieces one is.1) ∙ ap cut_of (is.0 ∙ sym is_too.0) ∙ cut_of_pieces other is_too.1
