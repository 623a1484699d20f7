-- The greatest end first, part by part: to the way that is found so none is preferred.
-- A way whose first part ends later comes before, whatever stands behind it; at the same end its first parts are
-- compared, and then what stands behind. So a way whose first part is best, ends as late as can be, and goes on in the
-- best way, is best. `member_best` is the hard one: each member behind the minimum isn't empty, and there may be a most.
use Rattle.std.proofs.Common.{◌≡◌, ℕ, ◌+◌, ◌-◌, Option, Some, None, List, [], ◌∷◌, ◌<◌, ◌≤◌, zero, suc, refl, sym, ap, ◌∙◌, subst, inl, inr, arith}
use Rattle.std.specs.Cmp.{nat_cmp_is}
use Rattle.std.specs.Ordering.{nat_cmp, ordering_then, ordering_reverse}
use Rattle.std.specs.declared.cmp.Ordering.{Ordering}
use Rattle.std.specs.declared.cmp.Ordering.TheVariants.{Less, Equal, Greater}
use Rattle.std.proofs.lemmas.Bool.{cases_lt}
use Rattle.ere_tree.specs.Tree.{Tree, cat, alt, repeat, trees_of}
use Rattle.ere_tree.specs.Captures.{Captures}
use Rattle.ere_tree.specs.Derivation.{Way, Ways, leaf, parts, members, chosen, inside, done, next, Derives, DerivesAll, DerivesEach, CanRepeat, Spans, count_of, tree_at}
use Rattle.ere_tree.specs.Preference.{within, in_order}
use Rattle.ere_tree.proofs.CapturesLemmas.{some_same}
use Rattle.ere_tree.proofs.PreferenceLemmas.{greater_not_less}
use Rattle.ere_places.specs.Places.{SpanAll}
use Rattle.ere_captures.specs.Best.{IsBest}
use Rattle.ere_captures.specs.Walk.{less_one}

-- no row of ways of these trees over [i, j) comes before this one
abbrev pub AllBest : List ℕ → List Tree → Ways → ℕ → ℕ → Type 0
AllBest s ts ws i j = (vs : Ways) (c d : Captures) → DerivesAll s (trees_of ts) vs i j c d → in_order vs ws ≡ Less → ⊥

-- no row of members, as many as the bounds allow
abbrev pub EachBest : List ℕ → Tree → ℕ → Option ℕ → Ways → ℕ → ℕ → Type 0
EachBest s t least most ws i j = (vs : Ways) (c d : Captures) → CanRepeat least most (count_of vs)
    → DerivesEach s t least vs i j c d → in_order vs ws ≡ Less → ⊥

pub equal_not_less : Equal ≡ Less → ⊥
equal_not_less e = greater_not_less (sym (ap ordering_reverse e) ∙ e)

then_not_less : (x y : Ordering) → (x ≡ Less → ⊥) → (y ≡ Less → ⊥) → ordering_then x y ≡ Less → ⊥
then_not_less Less y f g e = f refl
then_not_less Equal y f g e = g e
then_not_less Greater y f g e = greater_not_less e

-- an end that isn't greater is never preferred, unless by what comes behind it at the same end
pub not_less : (m k : ℕ) (x : Ordering) → k ≤ m → (k ≡ m → x ≡ Less → ⊥) → ordering_then (nat_cmp m k) x ≡ Less → ⊥
not_less m k x u f e =
    elim (cases_lt k m) [
      | inl lower ↦ greater_not_less ((λ i. ordering_then (nat_cmp_is m k Greater lower i) x) ∙ e)
      | inr upper ↦
          let same : k ≡ m = omega (arith, u, upper) in
          f same ((λ i. ordering_then (nat_cmp_is m k Equal (sym same) i) x) ∙ e)
    ]

both_not_less : (m k : ℕ) (x y : Ordering) → k ≤ m → (k ≡ m → x ≡ Less → ⊥) → (k ≡ m → y ≡ Less → ⊥)
    → ordering_then (ordering_then (nat_cmp m k) x) y ≡ Less → ⊥
both_not_less m k x y u f g e =
    elim (cases_lt k m) [
      | inl lower ↦
          greater_not_less ((λ i. ordering_then (ordering_then (nat_cmp_is m k Greater lower i) x) y) ∙ e)
      | inr upper ↦
          let same : k ≡ m = omega (arith, u, upper) in
          then_not_less x y (f same) (g same)
          ((λ i. ordering_then (ordering_then (nat_cmp_is m k Equal (sym same) i) x) y) ∙ e)
    ]

-- PARTS

all_spans : (s : List ℕ) (ts : List Tree) (ws : Ways) (i j : ℕ) (c d : Captures) → DerivesAll s (trees_of ts) ws i j c d
    → SpanAll s ts i j
all_spans s [] done i j c d h = (h.0, h.1)
all_spans s [] (next k w ws) i j c d h = absurd h
all_spans s (t ∷ ts) done i j c d h = absurd h
all_spans s (t ∷ ts) (next k w ws) i j c d h = (k, (w, c, h.0, h.1), all_spans s ts ws k j h.0 d h.2)

pub none_best : (s : List ℕ) (i j : ℕ) → AllBest s [] done i j
none_best s i j done c d h e = equal_not_less e
none_best s i j (next k v vs) c d h e = absurd h

pub part_best : (s : List ℕ) (t : Tree) (ts : List Tree) (w : Way) (ws : Ways) (i m j : ℕ) → IsBest s t w i m
    → AllBest s ts ws m j → ((k : ℕ) → Spans s t i k → SpanAll s ts k j → k ≤ m)
    → AllBest s (t ∷ ts) (next m w ws) i j
part_best s t ts w ws i m j one rest greatest done c d h e = absurd h
part_best s t ts w ws i m j one rest greatest (next k v vs) c d h e =
    both_not_less m k (within v w) (in_order vs ws)
    (greatest k (v, c, h.0, h.1) (all_spans s ts vs k j h.0 d h.2))
    (λ same. one v c h.0 (subst (λ n. Derives s t v i n c h.0) same h.1))
    (λ same. rest vs h.0 d (subst (λ n. DerivesAll s (trees_of ts) vs n j h.0 d) same h.2)) e

pub cat_best : (s : List ℕ) (ts : List Tree) (ws : Ways) (i j : ℕ) → AllBest s ts ws i j
    → IsBest s (cat (trees_of ts)) (parts ws) i j
cat_best s ts ws i j best (parts vs) c d h e = best vs c d h e
cat_best s ts ws i j best leaf c d h e = absurd h
cat_best s ts ws i j best (members vs) c d h e = absurd h
cat_best s ts ws i j best (chosen n v) c d h e = absurd h
cat_best s ts ws i j best (inside v) c d h e = absurd h

-- ALTERNATIVES

pub alternative_best : (s : List ℕ) (ts : List Tree) (n : ℕ) (t : Tree) (w : Way) (i j : ℕ)
    → tree_at (trees_of ts) n ≡ Some t → IsBest s t w i j
    → ((k : ℕ) (u : Tree) → k < n → tree_at (trees_of ts) k ≡ Some u → Spans s u i j → ⊥)
    → IsBest s (alt (trees_of ts)) (chosen n w) i j
alternative_best s ts n t w i j a one first (chosen k v) c d h e =
    elim (cases_lt k n) [
      | inl lower ↦ absurd (first k h.0 lower h.1 (v, c, d, h.2))
      | inr upper ↦
          not_less k n (within v w) (omega (arith, upper))
          (λ same. one v c d (subst (λ u. Derives s u v i j c d)
          (some_same h.0 t (sym h.1 ∙ ap (tree_at (trees_of ts)) (sym same) ∙ a)) h.2)) e
    ]
alternative_best s ts n t w i j a one first leaf c d h e = absurd h
alternative_best s ts n t w i j a one first (parts vs) c d h e = absurd h
alternative_best s ts n t w i j a one first (members vs) c d h e = absurd h
alternative_best s ts n t w i j a one first (inside v) c d h e = absurd h

-- MEMBERS

-- the bounds behind one member
pub fits_behind : (least : ℕ) (most : Option ℕ) (n : ℕ) → CanRepeat least most (n + 1)
    → CanRepeat (least - 1) (less_one most) n
fits_behind least None n h = (omega (arith, h.0), tt)
fits_behind least (Some most) n h = (omega (arith, h.0), omega (arith, h.1))

-- a first member, and a repeat behind it
pub each_behind : (s : List ℕ) (t : Tree) (least : ℕ) (most : Option ℕ) (k : ℕ) (w : Way) (ws : Ways) (i j : ℕ)
    (c d : Captures) → CanRepeat least most (count_of (next k w ws)) → DerivesEach s t least (next k w ws) i j c d
    → (e : Captures) × Derives s t w i k c e × (least ≡ 0 → i < k) × DerivesEach s t (least - 1) ws k j e d
each_behind s t zero most k w ws i j c d fits h =
    let same : 0 ≡ 0 - 1 = omega arith in
    (h.0, h.1, λ z. h.2, subst (λ n. DerivesEach s t n ws k j h.0 d) same h.3)
each_behind s t (suc least) most k w ws i j c d fits h =
    let same : least ≡ suc least - 1 = omega arith in
    (h.0, h.1, λ z. absurd (omega arith), subst (λ n. DerivesEach s t n ws k j h.0 d) same h.2)

pub behind_each : (s : List ℕ) (t : Tree) (least k : ℕ) (w : Way) (ws : Ways) (i j : ℕ) (c e d : Captures)
    → Derives s t w i k c e → (least ≡ 0 → i < k) → DerivesEach s t (least - 1) ws k j e d
    → DerivesEach s t least (next k w ws) i j c d
behind_each s t zero k w ws i j c e d h on rest =
    let same : 0 - 1 ≡ 0 = omega arith in
    (e, h, on refl, subst (λ n. DerivesEach s t n ws k j e d) same rest)
behind_each s t (suc least) k w ws i j c e d h on rest =
    let same : suc least - 1 ≡ least = omega arith in
    (e, h, subst (λ n. DerivesEach s t n ws k j e d) same rest)

pub done_best : (s : List ℕ) (t : Tree) (least : ℕ) (most : Option ℕ) (i j : ℕ) → EachBest s t least most done i j
done_best s t least most i j done c d fits h e = equal_not_less e
done_best s t least most i j (next k v vs) c d fits h e = equal_not_less e

pub member_best : (s : List ℕ) (t : Tree) (least : ℕ) (most : Option ℕ) (w : Way) (ws : Ways) (i m j : ℕ)
    → IsBest s t w i m → EachBest s t (least - 1) (less_one most) ws m j
    → ((k : ℕ) → Spans s t i k → Spans s (repeat t (least - 1) (less_one most)) k j → k ≤ m)
    → EachBest s t least most (next m w ws) i j
member_best s t least most w ws i m j one rest greatest done c d fits h e = equal_not_less e
member_best s t least most w ws i m j one rest greatest (next k v vs) c d fits h e =
    let b = each_behind s t least most k v vs i j c d fits h in
    let behind = fits_behind least most (count_of vs) fits in
    both_not_less m k (within v w) (in_order vs ws)
    (greatest k (v, c, b.0, b.1) (members vs, b.0, d, (behind, b.3)))
    (λ same. one v c b.0 (subst (λ n. Derives s t v i n c b.0) same b.1))
    (λ same. rest vs b.0 d behind (subst (λ n. DerivesEach s t (least - 1) vs n j b.0 d) same b.3)) e

pub repeat_best : (s : List ℕ) (t : Tree) (least : ℕ) (most : Option ℕ) (ws : Ways) (i j : ℕ)
    → EachBest s t least most ws i j → IsBest s (repeat t least most) (members ws) i j
repeat_best s t least most ws i j best (members vs) c d h e = best vs c d h.0 h.1 e
repeat_best s t least most ws i j best leaf c d h e = absurd h
repeat_best s t least most ws i j best (parts vs) c d h e = absurd h
repeat_best s t least most ws i j best (chosen n v) c d h e = absurd h
repeat_best s t least most ws i j best (inside v) c d h e = absurd h

-- a most that allows a member
abbrev pub RoomForOne : Option ℕ → Type 0
RoomForOne None = Unit {0}
RoomForOne (Some most) = 0 < most

room_for : (least : ℕ) (most : Option ℕ) (n : ℕ) → CanRepeat least most (n + 1) → RoomForOne most
room_for least None n h = tt
room_for least (Some most) n h = omega (arith, h.1)

-- a repeat that isn't over begins with a member
pub repeat_begins : (s : List ℕ) (t : Tree) (least : ℕ) (most : Option ℕ) (i j : ℕ)
    → Spans s (repeat t least most) i j → (least ≡ 0 → i < j)
    → (k : ℕ) × Spans s t i k × (least ≡ 0 → i < k) × Spans s (repeat t (least - 1) (less_one most)) k j
    × RoomForOne most
repeat_begins s t least most i j (members done, c, d, h) on =
    let z : least ≡ 0 = omega (arith, h.0.0) in
    let less = on z in absurd (omega (arith, less, h.1.0))
repeat_begins s t least most i j (members (next k w ws), c, d, h) on =
    let b = each_behind s t least most k w ws i j c d h.0 h.1 in (
      k,
      (w, c, b.0, b.1),
      b.2,
      (members ws, b.0, d, (fits_behind least most (count_of ws) h.0, b.3)),
      room_for least most (count_of ws) h.0,
    )
repeat_begins s t least most i j (leaf, c, d, h) on = absurd h
repeat_begins s t least most i j (parts ws, c, d, h) on = absurd h
repeat_begins s t least most i j (chosen n w, c, d, h) on = absurd h
repeat_begins s t least most i j (inside w, c, d, h) on = absurd h

-- and with one more the bounds are met
pub fits_more : (least : ℕ) (most : Option ℕ) (n : ℕ) → RoomForOne most → CanRepeat (least - 1) (less_one most) n
    → CanRepeat least most (n + 1)
fits_more least None n room h = (omega (arith, h.0), tt)
fits_more least (Some most) n room h = (omega (arith, h.0), omega (arith, h.1, room))
