-- What is read of a list has no references.
-- Each step of the reading is free of them if what it is given is; a refused regular expression, and one with references,
-- is no piece. The hard one is `pieces_free`.
use Rattle.std.proofs.Common.{◌≡◌, ℕ, ◌-◌, suc, zero, Bool, true, false, ◌||◌, List, [], ◌∷◌, ◌++◌, drop, map, Option, Some, None, Result, Ok, Err, refl, sym, subst, if◌then◌else◌, length, arith}
use Rattle.std.specs.Prelude.{All, IfSome}
use Rattle.std.specs.Prelude.{codes, take, nat_le, ◌&&◌}
use Rattle.std.specs.List.{prefix_len}
use Rattle.std.specs.Str.{bytes_eq}
use Rattle.std.specs.Option.{option_map, option_and_then}
use Rattle.tt_base.specs.Occurrence.{begins_with, first_in}
use Rattle.ere_tree.specs.Class.{is_blank}
use Rattle.ere_tree.specs.Front.{begins}
use Rattle.ere_tree.specs.Grammar.{reading}
use Rattle.ere_tree.specs.Tree.{Tree, trees_of}
use Rattle.ere_tree.specs.Shape.{has_refs, any_has_refs}
use Rattle.ere_tree.specs.declared.fault.EreFault.{EreFault}
use Rattle.bool_exprs.specs.Expr.{Expr, constant, name, negation, expr_of, refers}
use Rattle.bool_exprs.specs.View.{exprs_of}
use Rattle.bool_exprs.specs.declared.expr.BoolExpr.{BoolExpr}
use Rattle.bool_exprs.specs.Piece.{Piece, is_in_name, bytes, regex, Front, none, refused, piece, front, without_refs, regex_of, regex_ended, regex_at, bytes_at, behind_piece, and_pieces, pieces_from, word_of, tree_of, operand_of}
use Rattle.bool_exprs.specs.Token as tokens
use Rattle.bool_exprs.specs.Token.{Token, Tokens, name_token, token, and_next, tokens_from}
use Rattle.bool_exprs.specs.Place.{Frame, denied, and_behind, or_behind, paren, Place, wants, has, starred, State, taken, summed, closed, or_open, star_at, step, alone, item, finished, beginning, within_item, after, reading_from, exprs_in, is_comma, weight}

-- THE PIECES OF A NAME

abbrev FreePiece : Piece → Type 0
FreePiece (bytes word) = Unit {0}
FreePiece (regex tree) = has_refs tree ≡ false

abbrev FreeFront : Front → Type 0
FreeFront none = Unit {0}
FreeFront refused = Unit {0}
FreeFront (piece one count) = FreePiece one

abbrev FreePieces : List Piece → Type 0
FreePieces [] = Unit {0}
FreePieces (one ∷ more) = FreePiece one × FreePieces more

abbrev IfPieces : Option (List Piece × ℕ) → Type 0
IfPieces None = Unit {0}
IfPieces (Some found) = FreePieces found.0

abbrev IfTree : Option Tree → Type 0
IfTree None = Unit {0}
IfTree (Some tree) = has_refs tree ≡ false

without_free : (r : Result Tree EreFault) → IfTree (without_refs r)
without_free (Err fault) = tt
without_free (Ok tree) = by (has_refs tree) refl
  where
    by : (b : Bool) → has_refs tree ≡ b → IfTree (if b then None else Some tree)
    by true is = tt
    by false is = is

ended_free : (end : ℕ) (o : Option Tree) → IfTree o → FreeFront (regex_ended end o)
ended_free end None h = tt
ended_free end (Some tree) h = h

regex_free : (text : List ℕ) (o : Option ℕ) → FreeFront (regex_at text o)
regex_free text None = tt
regex_free text (Some end) =
    let inner : List ℕ = take (end - 2) (drop 2 text) in ended_free end (regex_of inner) (without_free (reading false inner))

bytes_free : (text : List ℕ) (count : ℕ) → FreeFront (bytes_at text count)
bytes_free text zero = tt
bytes_free text (suc count) = tt

either_front : (b : Bool) (x y : Front) → FreeFront x → FreeFront y → FreeFront (if b then x else y)
either_front true x y h k = h
either_front false x y h k = k

front_free : (text : List ℕ) → FreeFront (front text)
unfolding front
front_free text =
    let end : Option ℕ = first_in text (codes "}}") 2 (length text) in
    let count : ℕ = prefix_len is_in_name text in
    either_front (begins_with text (codes "{{")) (regex_at text end) (bytes_at text count) (regex_free text end)
    (bytes_free text count)

pieces_behind : (one : Piece) (count : ℕ) → FreePiece one → (o : Option (List Piece × ℕ)) → IfPieces o
    → IfPieces (behind_piece one count o)
pieces_behind one count h None more = tt
pieces_behind one count h (Some found) more = (h, more)

pieces_after : (f : Front) → FreeFront f → (go : ℕ → Option (List Piece × ℕ)) → ((n : ℕ) → IfPieces (go n))
    → IfPieces (and_pieces f go)
pieces_after none h go all = tt
pieces_after refused h go all = tt
pieces_after (piece one count) h go all = pieces_behind one count h (go count) (all count)

pieces_free : (skip : ℕ) (text : List ℕ) → IfPieces (pieces_from skip text)
unfolding pieces_from
pieces_free skip [] = tt
pieces_free (suc skip) (b ∷ rest) = pieces_free skip rest
pieces_free zero (b ∷ rest) =
    pieces_after (front (b ∷ rest)) (front_free (b ∷ rest)) (λ count. pieces_from (count - 1) rest)
    (λ count. pieces_free (count - 1) rest)

either_false : (a b : Bool) → a ≡ false → b ≡ false → (a || b) ≡ false
either_false false b h k = k
either_false true b h k = h

trees_free : (pieces : List Piece) → FreePieces pieces → any_has_refs (trees_of (map tree_of pieces)) ≡ false
trees_free [] h = refl
trees_free (bytes word ∷ more) h = trees_free more h.1
trees_free (regex tree ∷ more) h = either_false (has_refs tree) (any_has_refs (trees_of (map tree_of more))) h.0 (trees_free more h.1)

word_free : (word : List ℕ) → refers (word_of word) ≡ false
word_free word = by (bytes_eq word (codes "true")) (bytes_eq word (codes "false"))
  where
    by : (a b : Bool) → refers (if a then constant true else if b then constant false else name word) ≡ false
    by true b = refl
    by false true = refl
    by false false = refl

operand_free : (pieces : List Piece) → FreePieces pieces → refers (operand_of pieces) ≡ false
operand_free [] h = refl
operand_free (bytes word ∷ []) h = word_free word
operand_free (bytes word ∷ one ∷ more) h = trees_free (bytes word ∷ one ∷ more) h
operand_free (regex tree ∷ more) h = trees_free (regex tree ∷ more) h

-- TOKENS

abbrev FreeToken : Token → Type 0
FreeToken (tokens.operand e) = refers e ≡ false
FreeToken t = Unit {0}

abbrev IfToken : Option (Token × ℕ) → Type 0
IfToken None = Unit {0}
IfToken (Some found) = FreeToken found.0

abbrev FreeTokens : Tokens → Type 0
FreeTokens tokens.ends = Unit {0}
FreeTokens tokens.stops = Unit {0}
FreeTokens (tokens.next t rest) = FreeToken t × FreeTokens rest

name_free : (o : Option (List Piece × ℕ)) → IfPieces o → IfToken (name_token o)
name_free None h = tt
name_free (Some (pieces, zero)) h = tt
name_free (Some (pieces, suc count)) h = operand_free pieces h

-- a token of one kind, or the name that stands there
first_free : (a b c d e f g : Bool) (named : Option (Token × ℕ)) → IfToken named
    → IfToken (if a then Some (tokens.bang, 1) else if b then Some (tokens.open_paren, 1)
    else if c then Some (tokens.close_paren, 1) else if d then Some (tokens.comma, 1) else if e then Some (tokens.both, 2)
    else if f then Some (tokens.either, 2) else if g then Some (tokens.star, 1) else named)
first_free true b c d e f g named h = tt
first_free false true c d e f g named h = tt
first_free false false true d e f g named h = tt
first_free false false false true e f g named h = tt
first_free false false false false true f g named h = tt
first_free false false false false false true g named h = tt
first_free false false false false false false true named h = tt
first_free false false false false false false false named h = h

token_free : (xfail : Bool) (text : List ℕ) → IfToken (token xfail text)
unfolding token
token_free xfail text =
    first_free (begins 33 text) (begins 40 text) (begins 41 text) (begins 44 text) (begins_with text (codes "&&"))
    (begins_with text (codes "||")) (xfail && begins 42 text) (name_token (pieces_from 0 text))
    (name_free (pieces_from 0 text) (pieces_free 0 text))

next_free : (o : Option (Token × ℕ)) → IfToken o → (go : Token × ℕ → Tokens) → ((found : Token × ℕ) → FreeTokens (go found))
    → FreeTokens (and_next o go)
next_free None h go all = tt
next_free (Some found) h go all = (h, all found)

if_blank : (b : Bool) (x y : Tokens) → FreeTokens x → FreeTokens y → FreeTokens (if b then x else y)
if_blank true x y h k = h
if_blank false x y h k = k

tokens_free : (xfail : Bool) (skip : ℕ) (text : List ℕ) → FreeTokens (tokens_from xfail skip text)
unfolding tokens_from
tokens_free xfail skip [] = tt
tokens_free xfail (suc skip) (b ∷ rest) = tokens_free xfail skip rest
tokens_free xfail zero (b ∷ rest) =
    let go : Token × ℕ → Tokens = λ found. tokens_from xfail (found.1 - 1) rest in
    if_blank (is_blank b) (tokens_from xfail zero rest) (and_next (token xfail (b ∷ rest)) go) (tokens_free xfail zero rest)
    (next_free (token xfail (b ∷ rest)) (token_free xfail (b ∷ rest)) go (λ found. tokens_free xfail (found.1 - 1) rest))

-- PLACES

abbrev FreeFrame : Frame Expr → Type 0
FreeFrame denied = Unit {0}
FreeFrame (and_behind e) = refers e ≡ false
FreeFrame (or_behind e) = refers e ≡ false
FreeFrame paren = Unit {0}

abbrev FreeFrames : List (Frame Expr) → Type 0
FreeFrames [] = Unit {0}
FreeFrames (f ∷ fs) = FreeFrame f × FreeFrames fs

abbrev FreePlace : Place Expr → Type 0
FreePlace (wants fs) = FreeFrames fs
FreePlace (has fs e) = FreeFrames fs × (refers e ≡ false)
FreePlace starred = Unit {0}

abbrev IfPlace : Option (Place Expr) → Type 0
IfPlace None = Unit {0}
IfPlace (Some p) = FreePlace p

abbrev FreePair : List (Frame Expr) × Expr → Type 0
FreePair found = FreeFrames found.0 × (refers found.1 ≡ false)

abbrev AreFree : List Expr → Type 0
AreFree [] = Unit {0}
AreFree (e ∷ es) = (refers e ≡ false) × AreFree es

abbrev pub IfFree : Option (List Expr) → Type 0
IfFree None = Unit {0}
IfFree (Some es) = AreFree es

taken_free : (fs : List (Frame Expr)) (e : Expr) → FreeFrames fs → refers e ≡ false → FreePlace (taken fs e)
taken_free [] e h k = (tt, k)
taken_free (denied ∷ fs) e h k = taken_free fs (negation e) h.1 k
taken_free (and_behind s ∷ fs) e h k = (h.1, either_false (refers s) (refers e) h.0 k)
taken_free (or_behind s ∷ fs) e h k = (h, k)
taken_free (paren ∷ fs) e h k = (h, k)

summed_free : (fs : List (Frame Expr)) (e : Expr) → FreeFrames fs → refers e ≡ false → FreePair (summed fs e)
summed_free [] e h k = (tt, k)
summed_free (denied ∷ fs) e h k = (h, k)
summed_free (and_behind s ∷ fs) e h k = (h, k)
summed_free (or_behind s ∷ fs) e h k = (h.1, either_false (refers s) (refers e) h.0 k)
summed_free (paren ∷ fs) e h k = (h, k)

closed_free : (found : List (Frame Expr) × Expr) → FreePair found → IfPlace (closed found)
closed_free ([], e) h = tt
closed_free (denied ∷ fs, e) h = tt
closed_free (and_behind s ∷ fs, e) h = tt
closed_free (or_behind s ∷ fs, e) h = tt
closed_free (paren ∷ fs, e) h = taken_free fs e h.0.1 h.1

open_free : (found : List (Frame Expr) × Expr) → FreePair found → FreePlace (or_open found)
open_free (fs, e) h = (h.1, h.0)

star_free : (fs : List (Frame Expr)) → IfPlace (star_at fs)
star_free [] = tt
star_free (f ∷ fs) = tt

step_free : (p : Place Expr) (t : Token) → FreePlace p → FreeToken t → IfPlace (step p t)
step_free (wants fs) (tokens.operand e) h k = taken_free fs e h k
step_free (wants fs) tokens.bang h k = (tt, h)
step_free (wants fs) tokens.open_paren h k = (tt, h)
step_free (wants fs) tokens.star h k = star_free fs
step_free (has fs e) tokens.both h k = (h.1, h.0)
step_free (has fs e) tokens.either h k = open_free (summed fs e) (summed_free fs e h.0 h.1)
step_free (has fs e) tokens.close_paren h k = closed_free (summed fs e) (summed_free fs e h.0 h.1)
step_free p t h k = tt

alone_free : (found : List (Frame Expr) × Expr) → FreePair found → IfFree (alone found)
alone_free ([], e) h = (h.1, tt)
alone_free (f ∷ fs, e) h = tt

item_free : (p : Place Expr) → FreePlace p → IfFree (item p)
item_free (wants []) h = tt
item_free (wants (f ∷ fs)) h = tt
item_free (has fs e) h = alone_free (summed fs e) (summed_free fs e h.0 h.1)
item_free starred h = (refl, tt)

-- THE WHOLE

join_free : (xs ys : List Expr) → AreFree xs → AreFree ys → AreFree (xs ++ ys)
join_free [] ys h k = k
join_free (x ∷ xs) ys h k = (h.0, join_free xs ys h.1 k)

put_free : (list : List Expr) (o : Option (List Expr)) → AreFree list → IfFree o
    → IfFree (option_map (λ these. list ++ these) o)
put_free list None h k = tt
put_free list (Some these) h k = join_free list these h k

abbrev FreeState : State → Type 0
FreeState s = AreFree s.list × FreePlace s.place

abbrev IfState : Option State → Type 0
IfState None = Unit {0}
IfState (Some s) = FreeState s

begun_free : (o : Option (List Expr)) → IfFree o → IfState (option_map beginning o)
begun_free None h = tt
begun_free (Some list) h = (h, tt)

stepped_free : (s : State) (n : ℕ) (o : Option (Place Expr)) → AreFree s.list → IfPlace o
    → IfState (option_map (λ there. record { list = s.list; left = n; place = there }) o)
stepped_free s n None h k = tt
stepped_free s n (Some p) h k = (h, k)

if_state : (b : Bool) (x y : Option State) → IfState x → IfState y → IfState (if b then x else y)
if_state true x y h k = h
if_state false x y h k = k

within_free : (s : State) (t : Token) → FreeState s → FreeToken t → IfState (within_item s t)
within_free s t h k =
    let put : Place Expr → State = λ there. record { list = s.list; left = s.left - weight t; place = there } in
    if_state (nat_le (weight t) s.left) (option_map put (step s.place t)) None
    (stepped_free s (s.left - weight t) (step s.place t) h.0 (step_free s.place t h.1 k)) tt

after_free : (s : State) (t : Token) → FreeState s → FreeToken t → IfState (after s t)
after_free s t h k =
    if_state (is_comma t) (option_map beginning (finished s.list s.place)) (within_item s t)
    (begun_free (finished s.list s.place) (put_free s.list (item s.place) h.0 (item_free s.place h.1)))
    (within_free s t h k)

then_free : (o : Option State) → IfState o → (go : State → Option (List Expr)) → ((s : State) → FreeState s → IfFree (go s))
    → IfFree (option_and_then go o)
then_free None h go all = tt
then_free (Some s) h go all = all s h

reading_free : (rest : Tokens) (s : State) → FreeState s → FreeTokens rest → IfFree (reading_from s rest)
reading_free tokens.ends s h k = put_free s.list (item s.place) h.0 (item_free s.place h.1)
reading_free tokens.stops s h k = tt
reading_free (tokens.next t rest) s h k =
    then_free (after s t) (after_free s t h k.0) (λ there. reading_from there rest) (λ there g. reading_free rest there g k.1)

-- what is read has no references
pub list_free : (xfail : Bool) (text : List ℕ) → IfFree (exprs_in xfail text)
list_free xfail text = reading_free (tokens_from xfail 0 text) (beginning []) (tt, tt) (tokens_free xfail 0 text)

-- of the code's expressions
all_of : (xs : List BoolExpr) → AreFree (map expr_of xs) → All (λ e. refers (expr_of e) ≡ false) xs
all_of [] h k d below = absurd (omega arith)
all_of (x ∷ xs) h zero d below = h.0
all_of (x ∷ xs) h (suc k) d below = all_of xs h.1 k d (omega arith)

-- a list that was found, as the text says, has no references
pub found_free : (xfail : Bool) (text : List ℕ) (found : Option (List BoolExpr))
    → option_map exprs_of found ≡ exprs_in xfail text → IfSome found (All (λ e. refers (expr_of e) ≡ false))
found_free xfail text None is = tt
found_free xfail text (Some list) is = all_of list (subst IfFree (sym is) (list_free xfail text))
