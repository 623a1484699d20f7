-- What was read before a place is read the same, whatever stands from there on that doesn't go on with it.
-- A bracket looks ahead for what a `[` begins and for a range: `Ends` says that a text has its end before it can be seen how
-- the rest goes on. Then members, brackets, atoms and tokens that are spelled in one text are spelled in the other.
use Rattle.std.proofs.Common.{◌≡◌, ◌≢◌, ℕ, ◌+◌, Bool, true, false, not, ◌&&◌, ◌==◌, ◌||◌, ◌⊎◌, inl, inr, codes, List, [], ◌∷◌, ◌++◌, Option, Some, None, IsTrue, refl, sym, ap, subst, ◌∙◌, arith, append_assoc}
use Rattle.std.proofs.lemmas.Bool.{and_parts, eqb-false, not-true, or_parts, true≢false}
use Rattle.std.proofs.lemmas.List.{append_cancel_right}
use Rattle.std.specs.List.{list_all}
use Rattle.ere_tree.specs.Bound.{begins_bound, bound_at}
use Rattle.ere_tree.specs.Class.{is_digit}
use Rattle.ere_tree.specs.Front.{begins_with, starts}
use Rattle.ere_tree.specs.Token.{Atom, Token, bar, byte, close_group, item, one_of, open_group, same_as}
use Rattle.ere_tree.specs.Token as tokens
use Rattle.ere_laws.specs.Spelling.{Begins, BeginsInner, GoesOnAsRange, HasNoBound, IsName, IsOrdinary, MayStand, Member, SpellsAtom, SpellsBracket, SpellsMembers, SpellsToken, class, range, single, spelled, spelled_member}
use Rattle.ere_laws.proofs.BracketSpelling.{class_is, in_name}
use Rattle.ere_laws.proofs.TokenSpelling.{none_spelled}

-- a first byte and what is behind it
pub parted : (a b : ℕ) (x y : List ℕ) → a ∷ x ≡ b ∷ y → (a ≡ b) × (x ≡ y)
parted a b x y same = (cc, cc)

-- WHERE A TEXT ENDS

-- a `]` is in the text
abbrev pub Closes : List ℕ → Type 0
Closes [] = ⊥
Closes (c ∷ s) = (c ≡ 93) ⊎ Closes s

-- the text goes on with a byte that closes no bracket
abbrev pub GoesOn : List ℕ → Type 0
GoesOn v = (h : ℕ) × (rest : List ℕ) × (h ≢ 93) × (v ≡ h ∷ rest)

-- A text that v stood behind has a `]`, or w closes the bracket behind it: by a `]` behind a dash, or else by `a]`.
abbrev pub Ends : List ℕ → List ℕ → List ℕ → Type 0
Ends [] v w = ((tail : List ℕ) × (w ≡ 97 ∷ 93 ∷ tail)) × GoesOn v
Ends (c ∷ s) v w = (c ≡ 93) ⊎ ((c ≡ 45) × (s ≡ []) × (tail : List ℕ) × (w ≡ 93 ∷ tail)) ⊎ Ends s v w

closes_front : (s y : List ℕ) → Closes s → Closes (s ++ y)
closes_front [] y is = absurd is
closes_front (c ∷ s) y (inl is) = inl is
closes_front (c ∷ s) y (inr is) = inr (closes_front s y is)

closes_behind : (x s : List ℕ) → Closes s → Closes (x ++ s)
closes_behind [] s is = is
closes_behind (c ∷ x) s is = inr (closes_behind x s is)

closed_ends : (s v w : List ℕ) → Closes s → Ends s v w
closed_ends [] v w is = absurd is
closed_ends (c ∷ s) v w (inl is) = inl is
closed_ends (c ∷ s) v w (inr is) = inr (inr (closed_ends s v w is))

pub ends_behind : (x s v w : List ℕ) → Ends s v w → Ends (x ++ s) v w
ends_behind [] s v w is = is
ends_behind (c ∷ x) s v w is = inr (inr (ends_behind x s v w is))

name_parts : (a : ℕ) (p : List ℕ) → IsName (a ∷ p) → (a ≢ 93) × IsName p
name_parts a p is =
    let parts = and_parts (in_name a) (list_all in_name p) is in
    let both = and_parts (not (a == 58)) (not (a == 93)) parts.0 in
    (eqb-false a 93 (not-true (a == 93) both.1), parts.1)

-- a `:]` behind a name lies in the text
inside : (p s v w tail : List ℕ) → IsName p → Ends s v w → s ++ w ≡ p ++ 58 ∷ 93 ∷ tail
    → (t : List ℕ) × (s ≡ p ++ 58 ∷ 93 ∷ t)
inside [] [] v w tail good ((t, w_is), on) same =
    absurd (omega (arith, (parted 97 58 (93 ∷ t) (93 ∷ tail) (sym w_is ∙ same)).0))
inside (a ∷ []) [] v w tail good ((t, w_is), on) same =
    let h = parted 97 a (93 ∷ t) (58 ∷ 93 ∷ tail) (sym w_is ∙ same) in
    absurd (omega (arith, (parted 93 58 t (93 ∷ tail) h.1).0))
inside (a ∷ b ∷ p) [] v w tail good ((t, w_is), on) same =
    let h = parted 97 a (93 ∷ t) (b ∷ (p ++ 58 ∷ 93 ∷ tail)) (sym w_is ∙ same) in
    absurd ((name_parts b p (name_parts a (b ∷ p) good).1).0 (sym (parted 93 b t (p ++ 58 ∷ 93 ∷ tail) h.1).0))
inside [] (c ∷ s) v w tail good (inl is) same =
    absurd (omega (arith, is, (parted c 58 (s ++ w) (93 ∷ tail) same).0))
inside [] (c ∷ s) v w tail good (inr (inl (is, none, t, w_is))) same =
    absurd (omega (arith, is, (parted c 58 (s ++ w) (93 ∷ tail) same).0))
inside [] (c ∷ []) v w tail good (inr (inr ((t, w_is), on))) same =
    let h = parted c 58 w (93 ∷ tail) same in
    absurd (omega (arith, (parted 97 93 (93 ∷ t) tail (sym w_is ∙ h.1)).0))
inside [] (c ∷ d ∷ s) v w tail good (inr (inr is)) same =
    let h = parted c 58 (d ∷ (s ++ w)) (93 ∷ tail) same in
    let k = parted d 93 (s ++ w) tail h.1 in (s, λ i. h.0 i ∷ k.0 i ∷ s)
inside (a ∷ p) (c ∷ s) v w tail good (inl is) same =
    absurd ((name_parts a p good).0 (sym (parted c a (s ++ w) (p ++ 58 ∷ 93 ∷ tail) same).0 ∙ is))
inside (a ∷ []) (c ∷ s) v w tail good (inr (inl (is, none, t, w_is))) same =
    let h = parted c a (s ++ w) (58 ∷ 93 ∷ tail) same in
    let more : w ≡ 58 ∷ 93 ∷ tail = ap (λ x. x ++ w) (sym none) ∙ h.1 in
    absurd (omega (arith, (parted 93 58 t (93 ∷ tail) (sym w_is ∙ more)).0))
inside (a ∷ b ∷ p) (c ∷ s) v w tail good (inr (inl (is, none, t, w_is))) same =
    let h = parted c a (s ++ w) (b ∷ (p ++ 58 ∷ 93 ∷ tail)) same in
    let more : w ≡ b ∷ (p ++ 58 ∷ 93 ∷ tail) = ap (λ x. x ++ w) (sym none) ∙ h.1 in
    absurd ((name_parts b p (name_parts a (b ∷ p) good).1).0
    (sym (parted 93 b t (p ++ 58 ∷ 93 ∷ tail) (sym w_is ∙ more)).0))
inside (a ∷ p) (c ∷ s) v w tail good (inr (inr is)) same =
    let h = parted c a (s ++ w) (p ++ 58 ∷ 93 ∷ tail) same in
    let r = inside p s v w tail (name_parts a p good).1 is h.1 in
    (r.0, λ i. h.0 i ∷ r.1 i)

-- WHAT IS LOOKED AHEAD FOR

class_begins : (b : ℕ) (s v w name rest : List ℕ) → Ends s v w → IsName name
    → b ∷ (s ++ w) ≡ 91 ∷ 58 ∷ (name ++ 58 ∷ 93 ∷ rest) → Begins (b ∷ (s ++ v)) (spelled_member (class name))
class_begins b [] v w name rest ((t, w_is), on) good same =
    let h = parted b 91 w (58 ∷ (name ++ 58 ∷ 93 ∷ rest)) same in
    absurd (omega (arith, (parted 97 58 (93 ∷ t) (name ++ 58 ∷ 93 ∷ rest) (sym w_is ∙ h.1)).0))
class_begins b (c ∷ s) v w name rest is good same =
    let h = parted b 91 (c ∷ (s ++ w)) (58 ∷ (name ++ 58 ∷ 93 ∷ rest)) same in
    let k = parted c 58 (s ++ w) (name ++ 58 ∷ 93 ∷ rest) h.1 in
    by_end h.0 k.0 k.1 is
  where
    by_end : b ≡ 91 → c ≡ 58 → s ++ w ≡ name ++ 58 ∷ 93 ∷ rest → Ends (c ∷ s) v w
        → Begins (b ∷ c ∷ (s ++ v)) (spelled_member (class name))
    by_end first second more (inl is) = absurd (omega (arith, is, second))
    by_end first second more (inr (inl (is, none, t, w_is))) = absurd (omega (arith, is, second))
    by_end first second more (inr (inr is)) =
        let r = inside name s v w rest good is more in (
          r.0 ++ v,
          (λ i. first i ∷ second i ∷ (r.1 i ++ v))
              ∙ ap (λ x. 91 ∷ 58 ∷ x) (append_assoc name (58 ∷ 93 ∷ r.0) v) ∙ sym (class_is name (r.0 ++ v)),
        )

pair_begins : (b : ℕ) (s v w : List ℕ) (d : ℕ) → d ≢ 97 → Ends s v w → Begins (b ∷ (s ++ w)) (91 ∷ d ∷ [])
    → Begins (b ∷ (s ++ v)) (91 ∷ d ∷ [])
pair_begins b [] v w d other ((t, w_is), on) (rest, same) =
    let h = parted b 91 w (d ∷ rest) same in
    absurd (other (sym (parted 97 d (93 ∷ t) rest (sym w_is ∙ h.1)).0))
pair_begins b (c ∷ s) v w d other is (rest, same) =
    let h = parted b 91 (c ∷ (s ++ w)) (d ∷ rest) same in
    let k = parted c d (s ++ w) rest h.1 in (s ++ v, λ i. h.0 i ∷ k.0 i ∷ (s ++ v))

inner_stays : (b : ℕ) (s v w : List ℕ) → Ends s v w → BeginsInner (b ∷ (s ++ w)) → BeginsInner (b ∷ (s ++ v))
inner_stays b s v w is (inl begins) = inl (pair_begins b s v w 46 (λ e. omega (arith, e)) is begins)
inner_stays b s v w is (inr (inl begins)) =
    inr (inl (pair_begins b s v w 61 (λ e. omega (arith, e)) is begins))
inner_stays b s v w is (inr (inr (name, good, (rest, same)))) =
    inr (inr (name, good, class_begins b s v w name rest is good (same ∙ class_is name rest)))

range_stays : (s v w : List ℕ) → Ends s v w → GoesOnAsRange (s ++ w) → GoesOnAsRange (s ++ v)
range_stays [] v w ((t, w_is), on) (high, other, (rest, same)) =
    absurd (omega (arith, (parted 97 45 (93 ∷ t) (high ∷ rest) (sym w_is ∙ same)).0))
range_stays (c ∷ []) v w (inl is) (high, other, (rest, same)) =
    absurd (omega (arith, is, (parted c 45 w (high ∷ rest) same).0))
range_stays (c ∷ []) v w (inr (inl (is, none, t, w_is))) (high, other, (rest, same)) =
    let h = parted c 45 w (high ∷ rest) same in
    absurd (other (sym (parted 93 high t rest (sym w_is ∙ h.1)).0))
range_stays (c ∷ []) v w (inr (inr ((t, w_is), (next, more, goes, v_is)))) (high, other, (rest, same)) =
    let h = parted c 45 w (high ∷ rest) same in (next, goes, (more, λ i. h.0 i ∷ v_is i))
range_stays (c ∷ d ∷ s) v w is (high, other, (rest, same)) =
    let h = parted c 45 (d ∷ (s ++ w)) (high ∷ rest) same in
    let k = parted d high (s ++ w) rest h.1 in (high, other, (s ++ v, λ i. h.0 i ∷ k.0 i ∷ (s ++ v)))

-- MEMBERS AND BRACKETS

pub stand_stays : (one : Member) (s v w : List ℕ) → Ends s v w → MayStand one (s ++ v) → MayStand one (s ++ w)
stand_stays (single b) s v w is (alone, last) =
    (λ begins. alone (inner_stays b s v w is begins), λ goes. last (range_stays s v w is goes))
stand_stays (range low high) s v w is (order, other, alone) =
    (order, other, λ begins. alone (inner_stays high s v w is begins))
stand_stays (class name) s v w is (good, known, last) = (good, known, λ goes. last (range_stays s v w is goes))

-- members up to the `]` that closes them, and what stands behind it
closed_members : (first : Bool) (text : List ℕ) (all : List Member) (rest : List ℕ) → SpellsMembers first text all rest
    → (front : List ℕ) × Closes front × (text ≡ front ++ rest)
closed_members first text [] rest (last, same) = (codes "]", inl refl, same)
closed_members first text (one ∷ others) rest (behind, bare, same, stands, more) =
    let r = closed_members false behind others rest more in (
      spelled_member one ++ r.0,
      closes_behind (spelled_member one) r.0 r.1,
      same ∙ ap (λ t. spelled_member one ++ t) r.2 ∙ sym (append_assoc (spelled_member one) r.0 rest),
    )

close_begins : (one : Member) (t other : List ℕ) → Begins (spelled_member one ++ t) (codes "]")
    → Begins (spelled_member one ++ other) (codes "]")
close_begins (single b) t other (rest, same) =
    let h = parted b 93 t rest same in (other, λ i. h.0 i ∷ other)
close_begins (range low high) t other (rest, same) =
    let h = parted low 93 (45 ∷ high ∷ t) rest same in (45 ∷ high ∷ other, λ i. h.0 i ∷ 45 ∷ high ∷ other)
close_begins (class name) t other (rest, same) =
    absurd (omega (arith, (parted 91 93 (58 ∷ (name ++ 58 ∷ 93 ∷ t)) rest (sym (class_is name t) ∙ same)).0))

-- a member before members that are spelled
pub one_more : (first : Bool) (one : Member) (s v w : List ℕ) (all : List Member) (rest : List ℕ) → Ends s v w
    → (first ≡ false → Begins (spelled_member one ++ (s ++ v)) (codes "]") → ⊥) → MayStand one (s ++ v)
    → SpellsMembers false (s ++ w) all rest → SpellsMembers first (spelled_member one ++ (s ++ w)) (one ∷ all) rest
one_more first one s v w all rest is bare stands more = (
  s ++ w,
  λ fresh begins. bare fresh (close_begins one (s ++ w) (s ++ v) begins),
  refl,
  stand_stays one s v w is stands,
  more,
)

respelled_members : (first : Bool) (all : List Member) (z y v w : List ℕ) → SpellsMembers first (z ++ v) all (y ++ v)
    → SpellsMembers first (z ++ w) all (y ++ w)
respelled_members first [] z y v w (last, same) =
    (last, ap (λ t. t ++ w) (append_cancel_right z (93 ∷ y) v same))
respelled_members first (one ∷ others) z y v w (behind, bare, same, stands, more) =
    let r = closed_members false behind others (y ++ v) more in
    let s : List ℕ = r.0 ++ y in
    let behind_is : behind ≡ s ++ v = r.2 ∙ sym (append_assoc r.0 y v) in
    let front = spelled_member one in
    let all_is : z ++ v ≡ front ++ (s ++ v) = same ∙ ap (λ t. front ++ t) behind_is in
    let z_is : z ≡ front ++ s = append_cancel_right z (front ++ s) v (all_is ∙ sym (append_assoc front s v)) in
    let ends = closed_ends s v w (closes_front r.0 y r.1) in
    let rest = respelled_members false others s y v w (subst (λ t. SpellsMembers false t others (y ++ v)) behind_is more) in
    subst (λ t. SpellsMembers first t (one ∷ others) (y ++ w))
    (sym (ap (λ t. t ++ w) z_is ∙ append_assoc front s w))
    (one_more first one s v w others (y ++ w) ends
    (λ fresh begins. bare fresh (subst (λ t. Begins t (codes "]")) (sym all_is) begins))
    (subst (MayStand one) behind_is stands) rest)

caret_begins : (s v w : List ℕ) → Closes s → Begins (s ++ w) (codes "^") → Begins (s ++ v) (codes "^")
caret_begins [] v w is begins = absurd is
caret_begins (c ∷ s) v w is (rest, same) =
    let h = parted c 94 (s ++ w) rest same in (s ++ v, λ i. h.0 i ∷ (s ++ v))

respelled_bracket : (negated : Bool) (all : List Member) (u y v w : List ℕ) → SpellsBracket (u ++ v) negated all (y ++ v)
    → SpellsBracket (u ++ w) negated all (y ++ w)
respelled_bracket true all u y v w (inner, same, more) =
    let r = closed_members true inner all (y ++ v) more in
    let s : List ℕ = r.0 ++ y in
    let inner_is : inner ≡ s ++ v = r.2 ∙ sym (append_assoc r.0 y v) in
    let u_is : u ≡ 91 ∷ 94 ∷ s = append_cancel_right u (91 ∷ 94 ∷ s) v (same ∙ ap (λ t. 91 ∷ 94 ∷ t) inner_is) in (
      s ++ w,
      ap (λ t. t ++ w) u_is,
      respelled_members true all s y v w (subst (λ t. SpellsMembers true t all (y ++ v)) inner_is more),
    )
respelled_bracket false all u y v w (inner, same, bare, more) =
    let r = closed_members true inner all (y ++ v) more in
    let s : List ℕ = r.0 ++ y in
    let inner_is : inner ≡ s ++ v = r.2 ∙ sym (append_assoc r.0 y v) in
    let u_is : u ≡ 91 ∷ s = append_cancel_right u (91 ∷ s) v (same ∙ ap (λ t. 91 ∷ t) inner_is) in (
      s ++ w,
      ap (λ t. t ++ w) u_is,
      λ begins. bare (subst (λ t. Begins t (codes "^")) (sym inner_is)
          (caret_begins s v w (closes_front r.0 y r.1) begins)),
      respelled_members true all s y v w (subst (λ t. SpellsMembers true t all (y ++ v)) inner_is more),
    )

-- ATOMS AND TOKENS

digit_stays : (b : ℕ) (y v w : List ℕ) → begins_with is_digit w ≡ false → IsOrdinary b (y ++ v) → IsOrdinary b (y ++ w)
unfolding begins_with
digit_stays b [] v w calm (plain, bare) =
    (plain, λ brace digit is begins. true≢false (sym (ap (begins_with is_digit) begins.1 ∙ is) ∙ calm))
digit_stays b (c ∷ y) v w calm (plain, bare) = (
  plain,
  λ brace digit is begins. let h = parted c digit (y ++ w) begins.0 begins.1 in
      bare brace digit is (y ++ v, λ i. h.0 i ∷ (y ++ v)),
)

respelled_atom : (atom : Atom) (u y v w : List ℕ) → begins_with is_digit w ≡ false → SpellsAtom (u ++ v) atom (y ++ v)
    → SpellsAtom (u ++ w) atom (y ++ w)
respelled_atom (byte b) u y v w calm (inl (same, ordinary)) =
    inl (ap (λ t. t ++ w) (append_cancel_right u (b ∷ y) v same), digit_stays b y v w calm ordinary)
respelled_atom (byte b) u y v w calm (inr (same, other)) =
    inr (ap (λ t. t ++ w) (append_cancel_right u (92 ∷ b ∷ y) v same), other)
respelled_atom (one_of negated bytes) u y v w calm (inl (same, is, none)) =
    inl (ap (λ t. t ++ w) (append_cancel_right u (46 ∷ y) v same), is, none)
respelled_atom (one_of negated bytes) u y v w calm (inr (all, are, spells)) =
    inr (all, are, respelled_bracket negated all u y v w spells)
respelled_atom (same_as number) u y v w calm (digit, same, is, number_is) =
    (digit, ap (λ t. t ++ w) (append_cancel_right u (92 ∷ digit ∷ y) v same), is, number_is)

no_sign : (text : List ℕ) → begins_bound text ≡ false
    → (starts (codes "*") text ≡ false) × (starts (codes "+") text ≡ false) × (starts (codes "?") text ≡ false)
unfolding begins_bound
no_sign text free =
    let first = or_parts (starts (codes "*") text || starts (codes "+") text || starts (codes "?") text) _ free in
    let second = or_parts (starts (codes "*") text || starts (codes "+") text) _ first.0 in
    let third = or_parts (starts (codes "*") text) _ second.0 in (third.0, third.1, second.1)

pub free_bound : (text : List ℕ) → begins_bound text ≡ false → HasNoBound text
unfolding bound_at
free_bound text free = let n = no_sign text free in none_spelled text (rw (n.0, n.1, n.2, free) refl)

pub respelled_token : (t : Token) (u y v w : List ℕ) → begins_with is_digit w ≡ false → begins_bound (y ++ w) ≡ false
    → SpellsToken (u ++ v) t (y ++ v) → SpellsToken (u ++ w) t (y ++ w)
respelled_token (item atom None) u y v w calm free (behind, spells, (none, same)) = (
  y ++ w,
  respelled_atom atom u y v w calm (subst (λ t. SpellsAtom (u ++ v) atom t) (sym same) spells),
  (free_bound (y ++ w) free, refl),
)
respelled_token (item atom (Some bound)) u y v w calm free (behind, spells, (one, good, least, most, same)) =
    let x : List ℕ = spelled one ++ y in
    let behind_is : behind ≡ x ++ v = same ∙ sym (append_assoc (spelled one) y v) in (
      x ++ w,
      respelled_atom atom u x v w calm (subst (λ t. SpellsAtom (u ++ v) atom t) behind_is spells),
      (one, good, least, most, append_assoc (spelled one) y w),
    )
respelled_token tokens.line_start u y v w calm free same = ap (λ t. t ++ w) (append_cancel_right u (94 ∷ y) v same)
respelled_token tokens.line_end u y v w calm free same = ap (λ t. t ++ w) (append_cancel_right u (36 ∷ y) v same)
respelled_token bar u y v w calm free same = ap (λ t. t ++ w) (append_cancel_right u (124 ∷ y) v same)
respelled_token open_group u y v w calm free same = ap (λ t. t ++ w) (append_cancel_right u (40 ∷ y) v same)
respelled_token (close_group None) u y v w calm free (behind, same, (none, is)) = (
  y ++ w,
  ap (λ t. t ++ w) (append_cancel_right u (41 ∷ y) v (same ∙ ap (λ t. 41 ∷ t) (sym is))),
  (free_bound (y ++ w) free, refl),
)
respelled_token (close_group (Some bound)) u y v w calm free (behind, same, (one, good, least, most, is)) =
    let x : List ℕ = spelled one ++ y in
    let behind_is : behind ≡ x ++ v = is ∙ sym (append_assoc (spelled one) y v) in (
      x ++ w,
      ap (λ t. t ++ w) (append_cancel_right u (41 ∷ x) v (same ∙ ap (λ t. 41 ∷ t) behind_is)),
      (one, good, least, most, append_assoc (spelled one) y w),
    )
