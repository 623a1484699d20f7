-- Where `.` and `.|[[:space:]]` are found nowhere.
-- Shown: a byte that isn't a newline would be a member of the first, and any byte one of the second; and the other way round no way of
-- either reads what isn't there. The hard one is `none_in_nothing`, by all ways.
use Rattle.std.proofs.Common.{◌≡◌, ℕ, zero, suc, ◌+◌, ◌<◌, ◌==◌, ◌&&◌, not, Bool, true, false, Some, List, [], ◌∷◌, length, get_or, refl, sym, ap, subst, arith}
use Rattle.std.proofs.lemmas.Bool.Decides.{nat_tests}
use Rattle.std.specs.FinMap.{empty}
use Rattle.std.specs.List.{Contains}
use Rattle.ere_tree.proofs.SetLemmas.{passing_has, passing_tells}
use Rattle.ere_tree.specs.Captures.{Captures}
use Rattle.ere_tree.specs.Case.{all_others, is_among}
use Rattle.ere_tree.specs.Class.{is_space}
use Rattle.ere_tree.specs.Derivation.{tree_at, Way, leaf, parts, members, chosen, inside, done, next, Derives}
use Rattle.ere_tree.specs.Hit.{HasNoHit}
use Rattle.ere_tree.specs.Tree.{Tree, set, bytes_passing}
use Rattle.line_laws.specs.Left.{AreBytes, AreNewlines, NothingIsLeft, NothingStands, alternatives, any_byte, any_filled, dot, spaces}
use Rattle.std.proofs.lemmas.Option.{none-some, same_Some}

byte_at : (s : List ℕ) (n : ℕ) → AreBytes s → n < length s → get_or s n 0 < 256
byte_at [] n are low = let no : ⊥ = omega (arith, low) in absurd no
byte_at (b ∷ s) zero are low = are.0
byte_at (b ∷ s) (suc n) are low = byte_at s n are.1 (omega (arith, low))

newline_at : (s : List ℕ) (n : ℕ) → AreNewlines s → n < length s → get_or s n 0 ≡ 10
newline_at [] n are low = let no : ⊥ = omega (arith, low) in absurd no
newline_at (b ∷ s) zero are low = are.0
newline_at (b ∷ s) (suc n) are low = newline_at s n are.1 (omega (arith, low))

newlines_by : (s : List ℕ) → ((n : ℕ) → n < length s → get_or s n 0 ≡ 10) → AreNewlines s
newlines_by [] at = tt
newlines_by (b ∷ s) at = (at 0 (omega arith), newlines_by s (λ n low. at (suc n) (omega (arith, low))))

-- `.` has each byte but the newline
dot_has : (b : ℕ) → b < 256 → b == 10 ≡ false → Contains (all_others []) b
unfolding all_others
dot_has b low other = passing_has (λ c. not (is_among [] c) && not (c == 10)) b low (ap not other)

dot_tells : (b : ℕ) → Contains (all_others []) b → b ≡ 10 → ⊥
unfolding all_others
dot_tells b has is =
    let tells = passing_tells (λ c. not (is_among [] c) && not (c == 10)) b has in
    grind (arith, nat_tests, tells.1, is)

left_at : (s : List ℕ) → AreBytes s → HasNoHit s any_filled → (n : ℕ) → n < length s → (yes : Bool)
    → (get_or s n 0 == 10) ≡ yes → get_or s n 0 ≡ 10
left_at s are none n low true e = grind (arith, nat_tests, e)
left_at s are none n low false e =
    absurd (none n (n + 1) (parts (next (n + 1) leaf done)) empty
    (empty, (refl, low, dot_has (get_or s n 0) (byte_at s n are low) e, refl), (refl, omega (arith, low), refl)))

only_newlines : (s : List ℕ) → AreNewlines s → HasNoHit s any_filled
only_newlines s lines h k (parts (next m leaf ws)) d shows =
    dot_tells (get_or s h 0) shows.1.2 (newline_at s h lines shows.1.1)
only_newlines s lines h k leaf d shows = shows
only_newlines s lines h k (members ws) d shows = shows
only_newlines s lines h k (chosen n w) d shows = shows
only_newlines s lines h k (inside w) d shows = shows
only_newlines s lines h k (parts done) d shows = shows
only_newlines s lines h k (parts (next m (parts v) ws)) d shows = shows.1
only_newlines s lines h k (parts (next m (members v) ws)) d shows = shows.1
only_newlines s lines h k (parts (next m (chosen n w) ws)) d shows = shows.1
only_newlines s lines h k (parts (next m (inside w) ws)) d shows = shows.1

pub nothing_is_left : NothingIsLeft
nothing_is_left s are =
    (λ none. newlines_by s (λ n low. left_at s are none n low (get_or s n 0 == 10) refl), only_newlines s)

-- ---- any byte

spaces_have : Contains (bytes_passing is_space) 10
spaces_have = passing_has is_space 10 (omega arith) refl

one_stands : (b : ℕ) (s : List ℕ) → b < 256 → HasNoHit (b ∷ s) any_byte → (yes : Bool) → (b == 10) ≡ yes → ⊥
one_stands b s low none false e =
    none 0 1 (parts (next 1 (chosen 0 leaf) done)) empty
    (empty, (dot, refl, (refl, omega arith, dot_has b low e, refl)), (refl, omega arith, refl))
one_stands b s low none true e =
    let is : b ≡ 10 = grind (arith, nat_tests, e) in
    none 0 1 (parts (next 1 (chosen 1 leaf) done)) empty (
      empty,
      (spaces, refl, (refl, omega arith, subst (Contains (bytes_passing is_space)) (sym is) spaces_have, refl)),
      (refl, omega arith, refl),
    )

-- a set spans a byte
set_spans : (bytes : List ℕ) (w : Way) (i j : ℕ) (c d : Captures) → Derives [] (set bytes) w i j c d → ⊥
set_spans bytes leaf i j c d h = let no : ⊥ = omega (arith, h.1) in no
set_spans bytes (parts v) i j c d h = h
set_spans bytes (members v) i j c d h = h
set_spans bytes (chosen n w) i j c d h = h
set_spans bytes (inside w) i j c d h = h

-- each alternative is a set
either_set : (n : ℕ) (one : Tree) → tree_at alternatives n ≡ Some one → (bytes : List ℕ) × (one ≡ set bytes)
either_set zero one e = (all_others [], sym (same_Some dot one e))
either_set (suc zero) one e = (bytes_passing is_space, sym (same_Some spaces one e))
either_set (suc (suc n)) one e = absurd (none-some one e)

none_in_nothing : HasNoHit [] any_byte
none_in_nothing h k (parts (next m (chosen n w) ws)) d shows =
    let set_of = either_set n shows.1.0 shows.1.1 in
    set_spans set_of.0 w h m empty shows.0 (subst (λ t. Derives [] t w h m empty shows.0) set_of.1 shows.1.2)
none_in_nothing h k leaf d shows = shows
none_in_nothing h k (members ws) d shows = shows
none_in_nothing h k (chosen n w) d shows = shows
none_in_nothing h k (inside w) d shows = shows
none_in_nothing h k (parts done) d shows = shows
none_in_nothing h k (parts (next m (parts v) ws)) d shows = shows.1
none_in_nothing h k (parts (next m (members v) ws)) d shows = shows.1
none_in_nothing h k (parts (next m leaf ws)) d shows = shows.1
none_in_nothing h k (parts (next m (inside w) ws)) d shows = shows.1

nothing_else : (b : ℕ) (s : List ℕ) → b ∷ s ≡ [] → ⊥
nothing_else b s e = let no : suc (length s) ≡ 0 = ap length e in let off : ⊥ = omega (arith, no) in off

pub nothing_stands : NothingStands
nothing_stands [] are = (λ none. refl, λ e h k v d shows. none_in_nothing h k v d shows)
nothing_stands (b ∷ s) are = (λ none. absurd (one_stands b s are.0 none (b == 10) refl), λ e. absurd (nothing_else b s e))
