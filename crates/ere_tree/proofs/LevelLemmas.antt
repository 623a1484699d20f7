-- What was read, and what the rest of the text adds to it, is what the whole text says.
-- `joined` puts open levels and the rest of the text together; each token that a level takes moves from the rest into
-- the level and changes nothing of that. `in_branch_joined` and `close_joined` carry the others.
use Rattle.std.proofs.Common.{◌≡◌, ℕ, ◌+◌, Bool, true, false, ◌||◌, ◌==◌, List, [], ◌∷◌, ◌++◌, map, reverse, Option, Some, None, refl, sym, ap, ◌∙◌, inl, inr, if◌then◌else◌, append_assoc}
use Rattle.std.specs.List.{list_any}
use Rattle.std.proofs.lemmas.List.{map-append, reverse-append}
use Rattle.std.proofs.lemmas.List.Folds.{list_any-append}
use Rattle.ere_tree.specs.Tree.{Tree, empty, plain, set, line_start, line_end, cat, alt, repeat, group, back}
use Rattle.ere_tree.specs.Case.{both_cases, bracket_bytes, is_folded}
use Rattle.ere_tree.proofs.FitLemmas.{true_or_false}
use Rattle.ere_tree.specs.Token.{Token, Atom, byte, one_of, same_as, item, bar, open_group, close_group}
use Rattle.ere_tree.specs.Token as tokens
use Rattle.ere_tree.specs.Grammar.{Rest, ends, closes, letter, branch_of, either_of, repeated, atom_tree, in_branch, behind_bar, grouped, from_token, whole}
use Rattle.ere_tree.specs.Place.{Open, refusal, behind}
use Rattle.ere_tree.specs.Grammar as grammar
use Rattle.ere_tree.specs.Levels.{Level, Levels, run_parts, parts_of, new_level, with_letter, with_part, with_bar, tree_of, in_inner, beginning_levels, closed, with_item, taken, open_of, place_of, level_view}
use Rattle.ere_tree.specs.declared.bound.Bound.{Bound}
use Rattle.ere_tree.specs.declared.level.Level as held

-- whether a level has a number doesn't hang on the order
pub any_of_levels : (n : ℕ) (levels : List held.Level) →
    list_any (λ (level : Open). level.number == n) (map open_of (reverse (map level_view levels)))
    ≡ list_any (λ (level : held.Level). level.number == n) levels
any_of_levels n [] = refl
any_of_levels n (first ∷ levels) =
    let p : Open → Bool = λ level. level.number == n in
    let rest : List Level = map level_view levels in
    ap (λ (ls : List Level). list_any p (map open_of ls)) (reverse-append (level_view first ∷ []) rest)
    ∙ ap (list_any p) (map-append open_of (reverse rest) (level_view first ∷ []))
    ∙ list_any-append p (map open_of (reverse rest)) (open_of (level_view first) ∷ [])
    ∙ ap (λ v. v || (first.number == n || false)) (any_of_levels n levels)
    ∙ turned (list_any (λ (level : held.Level). level.number == n) levels) (first.number == n)
  where
    turned : (v w : Bool) → (v || (w || false)) ≡ (w || v)
    turned true true = refl
    turned true false = refl
    turned false true = refl
    turned false false = refl

-- bytes before the parts of a branch
abbrev pub letters : List ℕ → List Tree → List Tree
letters [] parts = parts
letters (b ∷ bs) parts = letter b (letters bs parts)

-- whether a part is no run of bytes
abbrev pub is_part : Tree → Bool
is_part (plain bytes) = false
is_part tree = true

letters-snoc : (run : List ℕ) (b : ℕ) (parts : List Tree) →
    letters (run ++ b ∷ []) parts ≡ letters run (letter b parts)
letters-snoc [] b parts = refl
letters-snoc (c ∷ run) b parts = ap (letter c) (letters-snoc run b parts)

letters-end : (run : List ℕ) → letters run [] ≡ run_parts run
letters-end [] = refl
letters-end (b ∷ []) = refl
letters-end (b ∷ c ∷ run) = ap (letter b) (letters-end (c ∷ run))

letter-part : (b : ℕ) (part : Tree) (parts : List Tree) → is_part part ≡ true →
    letter b (part ∷ parts) ≡ plain (b ∷ []) ∷ part ∷ parts
letter-part b empty parts is = refl
letter-part b (plain bytes) parts is = cc
letter-part b (set bytes) parts is = refl
letter-part b line_start parts is = refl
letter-part b line_end parts is = refl
letter-part b (cat ts) parts is = refl
letter-part b (alt ts) parts is = refl
letter-part b (repeat t least most) parts is = refl
letter-part b (group number t) parts is = refl
letter-part b (back number fold) parts is = refl

letters-part : (run : List ℕ) (part : Tree) (parts : List Tree) → is_part part ≡ true →
    letters run (part ∷ parts) ≡ run_parts run ++ part ∷ parts
letters-part [] part parts is = refl
letters-part (b ∷ []) part parts is = letter-part b part parts is
letters-part (b ∷ c ∷ run) part parts is = ap (letter b) (letters-part (c ∷ run) part parts is)

-- a level with the rest of its branch and the branches behind it
abbrev pub finished : Level → List Tree → List (List Tree) → Tree
finished level here others =
    either_of (level.branches ++ map branch_of ((level.parts ++ letters level.run here) ∷ others))

pub finished-letter : (b : ℕ) (level : Level) (here : List Tree) (others : List (List Tree)) →
    finished (with_letter b level) here others ≡ finished level (letter b here) others
finished-letter b level here others =
    ap (λ parts. either_of (level.branches ++ map branch_of ((level.parts ++ parts) ∷ others)))
    (letters-snoc level.run b here)

pub finished-part : (part : Tree) (level : Level) (here : List Tree) (others : List (List Tree)) → is_part part ≡ true →
    finished (with_part part level) here others ≡ finished level (part ∷ here) others
finished-part part level here others is =
    ap (λ parts. either_of (level.branches ++ map branch_of (parts ∷ others)))
    (append_assoc (parts_of level) (part ∷ []) here
    ∙ append_assoc level.parts (run_parts level.run) (part ∷ here)
    ∙ ap (λ parts. level.parts ++ parts) (sym (letters-part level.run part here is)))

finished-bar : (level : Level) (here : List Tree) (others : List (List Tree)) →
    finished (with_bar level) here others ≡ finished level [] (here ∷ others)
finished-bar level here others =
    ap either_of (append_assoc level.branches (branch_of (parts_of level) ∷ []) (map branch_of (here ∷ others)))
    ∙ ap (λ parts. either_of (level.branches ++ map branch_of ((level.parts ++ parts) ∷ here ∷ others)))
    (sym (letters-end level.run))

pub finished-end : (level : Level) → finished level [] [] ≡ tree_of level
finished-end level =
    ap (λ parts. either_of (level.branches ++ branch_of (level.parts ++ parts) ∷ [])) (letters-end level.run)

-- What open levels and the rest of the text say. (A rest that closes more levels, or fewer, doesn't come.)
abbrev pub joined : Level → List Level → Rest → Tree
joined inner [] (ends here others) = finished inner here others
joined inner [] (closes here others bound outside) = finished inner here others
joined inner (level ∷ levels) (ends here others) =
    joined (with_part (group inner.number (finished inner here others)) level) levels (ends [] [])
joined inner (level ∷ levels) (closes here others bound outside) =
    joined (with_part (repeated bound (group inner.number (finished inner here others))) level) levels outside

abbrev pub all_joined : Levels → Rest → Tree
all_joined levels rest = joined levels.inner levels.outer rest

-- a change of a level is a change of the rest of its branch
in_branch_joined : (change : List Tree → List Tree) (old new : Level) (outer : List Level) (rest : Rest) →
    new.number ≡ old.number →
    ((here : List Tree) (others : List (List Tree)) → finished new here others ≡ finished old (change here) others) →
    joined new outer rest ≡ joined old outer (in_branch change rest)
in_branch_joined change old new [] (ends here others) number same = same here others
in_branch_joined change old new [] (closes here others bound outside) number same = same here others
in_branch_joined change old new (level ∷ levels) (ends here others) number same =
    rw (number, same here others) refl
in_branch_joined change old new (level ∷ levels) (closes here others bound outside) number same =
    rw (number, same here others) refl

letter_joined : (b : ℕ) (level : Level) (outer : List Level) (rest : Rest) →
    joined (with_letter b level) outer rest ≡ joined level outer (in_branch (letter b) rest)
letter_joined b level outer rest =
    in_branch_joined (letter b) level (with_letter b level) outer rest refl (finished-letter b level)

part_joined : (part : Tree) (level : Level) (outer : List Level) (rest : Rest) → is_part part ≡ true →
    joined (with_part part level) outer rest ≡ joined level outer (in_branch (λ parts. part ∷ parts) rest)
part_joined part level outer rest is =
    in_branch_joined (λ parts. part ∷ parts) level (with_part part level) outer rest refl
    (λ here others. finished-part part level here others is)

bar_joined : (level : Level) (outer : List Level) (rest : Rest) →
    joined (with_bar level) outer rest ≡ joined level outer (behind_bar rest)
bar_joined level [] (ends here others) = finished-bar level here others
bar_joined level [] (closes here others bound outside) = finished-bar level here others
bar_joined level (round ∷ levels) (ends here others) =
    ap (λ tree. joined (with_part (group level.number tree) round) levels (ends [] []))
    (finished-bar level here others)
bar_joined level (round ∷ levels) (closes here others bound outside) =
    ap (λ tree. joined (with_part (repeated bound (group level.number tree)) round) levels outside)
    (finished-bar level here others)

repeated-part : (bound : Option Bound) (tree : Tree) → is_part tree ≡ true → is_part (repeated bound tree) ≡ true
repeated-part None tree is = is
repeated-part (Some bound) tree is = refl

open_joined : (at number : ℕ) (level : Level) (outer : List Level) (rest : Rest) →
    joined (new_level at number) (level ∷ outer) rest ≡ joined level outer (grouped number rest)
open_joined at number level outer (ends here others) =
    part_joined (group number (either_of (map branch_of (here ∷ others)))) level outer (ends [] []) refl
open_joined at number level outer (closes here others bound outside) =
    part_joined (repeated bound (group number (either_of (map branch_of (here ∷ others))))) level outer outside
    (repeated-part bound (group number (either_of (map branch_of (here ∷ others)))) refl)

close_joined : (bound : Option Bound) (inner level : Level) (outer : List Level) (rest : Rest) →
    joined (with_part (repeated bound (group inner.number (tree_of inner))) level) outer rest
    ≡ joined inner (level ∷ outer) (closes [] [] bound rest)
close_joined bound inner level outer rest =
    ap (λ tree. joined (with_part (repeated bound (group inner.number tree)) level) outer rest)
    (sym (finished-end inner))

byte_joined : (folded : Bool) (b : ℕ) (level : Level) (outer : List Level) (rest : Rest) →
    joined ((if folded then with_part (set (both_cases (b ∷ []))) else with_letter b) level) outer rest
    ≡ joined level outer
    (in_branch (λ parts. if folded then set (both_cases (b ∷ [])) ∷ parts else letter b parts) rest)
byte_joined true b level outer rest = part_joined (set (both_cases (b ∷ []))) level outer rest refl
byte_joined false b level outer rest = letter_joined b level outer rest

item_joined : (fold : Bool) (atom : Atom) (bound : Option Bound) (level : Level) (outer : List Level) (rest : Rest) →
    joined (with_item fold atom bound level) outer rest
    ≡ joined level outer (in_branch (grammar.with_item fold atom bound) rest)
item_joined fold (byte b) None level outer rest = byte_joined (is_folded fold b) b level outer rest
item_joined fold (byte b) (Some bound) level outer rest =
    part_joined (repeated (Some bound) (atom_tree fold (byte b))) level outer rest refl
item_joined fold (one_of negated members) bound level outer rest =
    let bytes = bracket_bytes fold negated members in
    part_joined (repeated bound (set bytes)) level outer rest (repeated-part bound (set bytes) refl)
item_joined fold (same_as number) bound level outer rest =
    part_joined (repeated bound (back number fold)) level outer rest (repeated-part bound (back number fold) refl)

close_joined_all : (fold : Bool) (at : ℕ) (bound : Option Bound) (groups : ℕ) (inner : Level) (outer : List Level)
    (rest : Rest) →
    refusal (place_of (record { groups = groups; inner = inner; outer = outer })) (close_group bound) ≡ None →
    all_joined (closed bound (record { groups = groups; inner = inner; outer = outer })) rest
    ≡ joined inner outer (closes [] [] bound rest)
close_joined_all fold at bound groups inner [] rest is = cc
close_joined_all fold at bound groups inner (level ∷ outer) rest is = close_joined bound inner level outer rest

-- a token that is taken adds what the grammar says of it
pub token_joined : (fold : Bool) (at : ℕ) (token : Token) (levels : Levels) (rest : Rest) →
    refusal (place_of levels) token ≡ None →
    all_joined (taken fold at token levels) rest ≡ all_joined levels (from_token fold (levels.groups + 1) token rest)
token_joined fold at (item atom bound) levels rest is = item_joined fold atom bound levels.inner levels.outer rest
token_joined fold at tokens.line_start levels rest is = part_joined line_start levels.inner levels.outer rest refl
token_joined fold at tokens.line_end levels rest is = part_joined line_end levels.inner levels.outer rest refl
token_joined fold at bar levels rest is = bar_joined levels.inner levels.outer rest
token_joined fold at open_group levels rest is = open_joined at (levels.groups + 1) levels.inner levels.outer rest
token_joined fold at (close_group bound) levels rest is =
    close_joined_all fold at bound levels.groups levels.inner levels.outer rest is

-- and leads to the place that the grammar says
close_place : (at : ℕ) (bound : Option Bound) (groups : ℕ) (inner : Level) (outer : List Level) →
    refusal (place_of (record { groups = groups; inner = inner; outer = outer })) (close_group bound) ≡ None →
    place_of (closed bound (record { groups = groups; inner = inner; outer = outer }))
    ≡ behind (place_of (record { groups = groups; inner = inner; outer = outer })) at (close_group bound)
close_place at bound groups inner [] is = cc
close_place at bound groups inner (level ∷ outer) is = refl

item_place : (fold : Bool) (at : ℕ) (atom : Atom) (bound : Option Bound) (levels : Levels) →
    place_of (in_inner (with_item fold atom bound) levels) ≡ behind (place_of levels) at (item atom bound)
item_place fold at (byte b) None levels = elim (true_or_false (is_folded fold b)) [ inl is ↦ rw is refl | inr is ↦ rw is refl ]
item_place fold at (byte b) (Some bound) levels = refl
item_place fold at (one_of negated members) bound levels = refl
item_place fold at (same_as number) bound levels = refl

pub token_place : (fold : Bool) (at : ℕ) (token : Token) (levels : Levels) → refusal (place_of levels) token ≡ None →
    place_of (taken fold at token levels) ≡ behind (place_of levels) at token
token_place fold at (item atom bound) levels is = item_place fold at atom bound levels
token_place fold at tokens.line_start levels is = refl
token_place fold at tokens.line_end levels is = refl
token_place fold at bar levels is = refl
token_place fold at open_group levels is = refl
token_place fold at (close_group bound) levels is = close_place at bound levels.groups levels.inner levels.outer is

-- at the beginning the rest is the whole
pub beginning_joined : (rest : Rest) → all_joined beginning_levels rest ≡ whole rest
beginning_joined (ends here others) = refl
beginning_joined (closes here others bound outside) = refl
