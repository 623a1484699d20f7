-- Lists of ways, the preferred first: what stands in one stands in a longer one; what is put behind is dropped where
-- something before agrees with it (`new_stands` is the hard one); and the lists of a group, of a reference, of what has no
-- references, and of alternatives.
use Rattle.std.proofs.Common.{◌≡◌, ℕ, ◌+◌, ◌<◌, ◌≤◌, Some, List, [], ◌∷◌, ◌++◌, length, refl, sym, ap, ◌∙◌, subst, inl, inr, arith, map}
use Rattle.std.proofs.lemmas.Bool.{cases_lt}
use Rattle.std.specs.Cmp.{nat_cmp_is}
use Rattle.std.specs.FinMap.{insert}
use Rattle.std.specs.Ordering.{ordering_then, ordering_reverse}
use Rattle.std.specs.declared.cmp.Ordering.{Ordering}
use Rattle.std.specs.declared.cmp.Ordering.TheVariants.{Less, Equal, Greater}
use Rattle.ere_captures.proofs.BestLemmas.{equal_not_less}
use Rattle.ere_refs.proofs.AgreeLemmas.{insert_agrees}
use Rattle.ere_refs.specs.Lists.{AllBefore, AllDerive, AreOver, HasLike, IsPut, Listed, StandsIn}
use Rattle.ere_refs.specs.Over.{IsBestFrom}
use Rattle.ere_refs.specs.Refers.{Agree}
use Rattle.ere_tree.proofs.CapturesLemmas.{some_same}
use Rattle.ere_tree.proofs.PreferenceLemmas.{greater_not_less, within_back}
use Rattle.ere_tree.specs.Captures.{Captures}
use Rattle.ere_tree.specs.Derivation.{Way, leaf, parts, members, chosen, inside, done, next, Derives, tree_at}
use Rattle.ere_tree.specs.Preference.{within}
use Rattle.ere_tree.specs.Tree.{Tree, Trees, alt, cat, group, then}
use Rattle.ere_tree.specs.Tree as forms

-- COMPARISONS

pub less_not_greater : (o : Ordering) → o ≡ Less → o ≡ Greater → ⊥
less_not_greater o less greater = greater_not_less (sym greater ∙ less)

pub back_less : (o : Ordering) → ordering_reverse o ≡ Less → o ≡ Greater
back_less Less e = absurd (greater_not_less e)
back_less Equal e = absurd (equal_not_less e)
back_less Greater e = refl

back_greater : (o : Ordering) → o ≡ Greater → ordering_reverse o ≡ Less
back_greater o e = ap ordering_reverse e

-- PLACES IN A LIST

pub stands_more : (P : ℕ → Type 0) (v : Way) (d : Captures) (xs ys : Listed) → StandsIn P v d xs
    → StandsIn P v d (xs ++ ys)
stands_more P v d [] ys h = absurd h
stands_more P v d (x ∷ xs) ys (inl here) = inl here
stands_more P v d (x ∷ xs) ys (inr rest) = inr (rest.0, stands_more P v d xs ys rest.1)

pub stands_behind : (P : ℕ → Type 0) (v : Way) (d : Captures) (xs ys : Listed) → AllBefore v xs → StandsIn P v d ys
    → StandsIn P v d (xs ++ ys)
stands_behind P v d [] ys before h = h
stands_behind P v d (x ∷ xs) ys before h = inr (before.0, stands_behind P v d xs ys before.1 h)

-- what has one before it that agrees, stands there
pub stands_like : (P : ℕ → Type 0) (v : Way) (d : Captures) (xs : Listed) → AllBefore v xs → HasLike P d xs
    → StandsIn P v d xs
stands_like P v d [] before h = absurd h
stands_like P v d (x ∷ xs) before (inl here) = inl (here, λ greater. less_not_greater (within x.0 v) before.0 greater)
stands_like P v d (x ∷ xs) before (inr rest) = inr (before.0, stands_like P v d xs before.1 rest)

pub before_more : (v : Way) (xs ys : Listed) → AllBefore v xs → AllBefore v ys → AllBefore v (xs ++ ys)
before_more v [] ys before h = h
before_more v (x ∷ xs) ys before h = (before.0, before_more v xs ys before.1 h)

pub like_more : (P : ℕ → Type 0) (d : Captures) (xs ys : Listed) → HasLike P d xs → HasLike P d (xs ++ ys)
like_more P d [] ys h = absurd h
like_more P d (x ∷ xs) ys (inl here) = inl here
like_more P d (x ∷ xs) ys (inr rest) = inr (like_more P d xs ys rest)

pub like_last : (P : ℕ → Type 0) (d : Captures) (xs ys : Listed) → HasLike P d ys → HasLike P d (xs ++ ys)
like_last P d [] ys h = h
like_last P d (x ∷ xs) ys h = inr (like_last P d xs ys h)

agree_trans : (P : ℕ → Type 0) (c d e : Captures) → Agree P c d → Agree P d e → Agree P c e
agree_trans P c d e f g n p = f n p ∙ g n p

pub like_alike : (P : ℕ → Type 0) (c d : Captures) (xs : Listed) → Agree P c d → HasLike P d xs → HasLike P c xs
like_alike P c d [] same h = absurd h
like_alike P c d (x ∷ xs) same (inl here) = inl (agree_trans P c d x.1 same here)
like_alike P c d (x ∷ xs) same (inr rest) = inr (like_alike P c d xs same rest)

pub stands_has : (P : ℕ → Type 0) (v : Way) (d : Captures) (xs : Listed) → StandsIn P v d xs → HasLike P d xs
stands_has P v d [] h = absurd h
stands_has P v d (x ∷ xs) (inl here) = inl here.0
stands_has P v d (x ∷ xs) (inr rest) = inr (stands_has P v d xs rest.1)

-- WHAT IS PUT BEHIND

-- the same of items one by one
abbrev pub ArePut : (ℕ → Type 0) → Listed → Listed → Listed → Type 0
ArePut P xs [] zs = zs ≡ xs
ArePut P xs (y ∷ ys) zs = (ms : Listed) × IsPut P xs y ms × ArePut P ms ys zs

pub put_stands : (P : ℕ → Type 0) (v : Way) (d : Captures) (xs : Listed) (y : Way × Captures) (zs : Listed)
    → IsPut P xs y zs → StandsIn P v d xs → StandsIn P v d zs
put_stands P v d xs y zs (inl put) h = subst (StandsIn P v d) (sym put) (stands_more P v d xs (y ∷ []) h)
put_stands P v d xs y zs (inr dropped) h = subst (StandsIn P v d) (sym dropped.0) h

pub old_stands : (P : ℕ → Type 0) (v : Way) (d : Captures) (xs ys zs : Listed) → ArePut P xs ys zs → StandsIn P v d xs
    → StandsIn P v d zs
old_stands P v d xs [] zs put h = subst (StandsIn P v d) (sym put) h
old_stands P v d xs (y ∷ ys) zs put h = old_stands P v d put.0 ys zs put.2 (put_stands P v d xs y put.0 put.1 h)

pub put_before : (P : ℕ → Type 0) (v : Way) (xs : Listed) (y : Way × Captures) (zs : Listed) → IsPut P xs y zs
    → AllBefore v xs → within y.0 v ≡ Less → AllBefore v zs
put_before P v xs y zs (inl put) before less =
    subst (AllBefore v) (sym put) (before_more v xs (y ∷ []) before (less, tt))
put_before P v xs y zs (inr dropped) before less = subst (AllBefore v) (sym dropped.0) before

pub all_before : (P : ℕ → Type 0) (v : Way) (xs ys zs : Listed) → ArePut P xs ys zs → AllBefore v xs → AllBefore v ys
    → AllBefore v zs
all_before P v xs [] zs put before behind = subst (AllBefore v) (sym put) before
all_before P v xs (y ∷ ys) zs put before behind =
    all_before P v put.0 ys zs put.2 (put_before P v xs y put.0 put.1 before behind.0) behind.1

-- the item for which a derivation stands, put behind what is preferred to it
pub put_here : (P : ℕ → Type 0) (v : Way) (d : Captures) (xs : Listed) (y : Way × Captures) (zs : Listed)
    → IsPut P xs y zs → AllBefore v xs → Agree P d y.1 → (within y.0 v ≡ Greater → ⊥) → StandsIn P v d zs
put_here P v d xs y zs (inl put) before same least =
    subst (StandsIn P v d) (sym put) (stands_behind P v d xs (y ∷ []) before (inl (same, least)))
put_here P v d xs y zs (inr dropped) before same least =
    subst (StandsIn P v d) (sym dropped.0)
    (stands_like P v d xs before (like_alike P d y.1 xs same dropped.1))

pub new_stands : (P : ℕ → Type 0) (v : Way) (d : Captures) (xs ys zs : Listed) → ArePut P xs ys zs → AllBefore v xs
    → StandsIn P v d ys → StandsIn P v d zs
new_stands P v d xs [] zs put before h = absurd h
new_stands P v d xs (y ∷ ys) zs put before (inl here) =
    old_stands P v d put.0 ys zs put.2 (put_here P v d xs y put.0 put.1 before here.0 here.1)
new_stands P v d xs (y ∷ ys) zs put before (inr rest) =
    new_stands P v d put.0 ys zs put.2 (put_before P v xs y put.0 put.1 before rest.0) rest.1

put_derive : (s : List ℕ) (t : Tree) (i j : ℕ) (c : Captures) (xs ys : Listed) → AllDerive s t i j c xs
    → AllDerive s t i j c ys → AllDerive s t i j c (xs ++ ys)
put_derive s t i j c [] ys f g = g
put_derive s t i j c (x ∷ xs) ys f g = (f.0, put_derive s t i j c xs ys f.1 g)

pub all_derive : (s : List ℕ) (t : Tree) (i j : ℕ) (c : Captures) (P : ℕ → Type 0) (xs ys zs : Listed)
    → ArePut P xs ys zs → AllDerive s t i j c xs → AllDerive s t i j c ys → AllDerive s t i j c zs
all_derive s t i j c P xs [] zs put f g = subst (AllDerive s t i j c) (sym put) f
all_derive s t i j c P xs (y ∷ ys) zs put f g =
    all_derive s t i j c P put.0 ys zs put.2 (each put.1) g.1
  where
    each : IsPut P xs y put.0 → AllDerive s t i j c put.0
    each (inl one) =
        subst (AllDerive s t i j c) (sym one) (put_derive s t i j c xs (y ∷ []) f (g.0, tt))
    each (inr dropped) = subst (AllDerive s t i j c) (sym dropped.0) f

-- THE FIRST OF A LIST

-- where nothing is read behind, the first of the list is preferred to all
pub head_best : (s : List ℕ) (t : Tree) (i j : ℕ) (c : Captures) (P : ℕ → Type 0) (x : Way × Captures) (xs : Listed)
    → AreOver s t i j c P (x ∷ xs) → IsBestFrom s t x.0 i j c
head_best s t i j c P x xs over v d shows less = elim (over.first v d shows) [
  | inl here ↦ here.1 (back_less (within x.0 v) (sym (within_back x.0 v) ∙ less))
  | inr rest ↦
      let greater = back_less (within x.0 v) (sym (within_back x.0 v) ∙ less) in
      less_not_greater (within x.0 v) rest.0 greater
]

pub none_over : (s : List ℕ) (t : Tree) (i j : ℕ) (c : Captures) (P : ℕ → Type 0) → AreOver s t i j c P [] → (v : Way)
    (d : Captures) → Derives s t v i j c d → ⊥
none_over s t i j c P over v d shows = over.first v d shows

pub over_none : (s : List ℕ) (t : Tree) (i j : ℕ) (c : Captures) (P : ℕ → Type 0)
    → ((v : Way) (d : Captures) → Derives s t v i j c d → ⊥) → AreOver s t i j c P []
over_none s t i j c P nothing = record {
  each = tt;
  first = nothing;
}

-- the best way alone, where all ways leave the same of what is read
pub over_best : (s : List ℕ) (t : Tree) (i j : ℕ) (c : Captures) (P : ℕ → Type 0) (w : Way) (e : Captures)
    → Derives s t w i j c e → IsBestFrom s t w i j c
    → ((v : Way) (d : Captures) → Derives s t v i j c d → Agree P d e) → AreOver s t i j c P ((w, e) ∷ [])
over_best s t i j c P w e shows best same = record {
  each = (shows, tt);
  first = λ v d other. inl (
    same v d other,
    λ greater. best v d other (within_back w v ∙ back_greater (within w v) greater),
  );
}

-- GROUPS

abbrev pub in_group : ℕ → ℕ × ℕ → Way × Captures → Way × Captures
in_group n p x = (inside x.0, insert x.1 n p)

group_stands : (P : ℕ → Type 0) (n : ℕ) (p : ℕ × ℕ) (v : Way) (d : Captures) (xs : Listed) → StandsIn P v d xs
    → StandsIn P (inside v) (insert d n p) (map (in_group n p) xs)
group_stands P n p v d [] h = absurd h
group_stands P n p v d (x ∷ xs) (inl here) = inl (insert_agrees P d x.1 n p here.0, here.1)
group_stands P n p v d (x ∷ xs) (inr rest) = inr (rest.0, group_stands P n p v d xs rest.1)

group_derive : (s : List ℕ) (n : ℕ) (t : Tree) (i j : ℕ) (c : Captures) (xs : Listed) → AllDerive s t i j c xs
    → AllDerive s (group n t) i j c (map (in_group n (i, j)) xs)
group_derive s n t i j c [] h = tt
group_derive s n t i j c (x ∷ xs) h = ((x.1, h.0, refl), group_derive s n t i j c xs h.1)

pub over_group : (s : List ℕ) (n : ℕ) (t : Tree) (i j : ℕ) (c : Captures) (P : ℕ → Type 0) (xs : Listed)
    → AreOver s t i j c P xs → AreOver s (group n t) i j c P (map (in_group n (i, j)) xs)
over_group s n t i j c P xs over = record {
  each = group_derive s n t i j c xs over.each;
  first = stands;
}
  where
    stands : (v : Way) (d : Captures) → Derives s (group n t) v i j c d
        → StandsIn P v d (map (in_group n (i, j)) xs)
    stands (inside v) d h =
        subst (λ e. StandsIn P (inside v) e (map (in_group n (i, j)) xs)) (sym h.2)
        (group_stands P n (i, j) v h.0 xs (over.first v h.0 h.1))
    stands leaf d h = absurd h
    stands (parts vs) d h = absurd h
    stands (members vs) d h = absurd h
    stands (chosen k v) d h = absurd h

-- ONE PART ALONE

abbrev pub alone : ℕ → Way × Captures → Way × Captures
alone j x = (parts (next j x.0 done), x.1)

then_equal : (o : Ordering) → ordering_then o Equal ≡ o
then_equal Less = refl
then_equal Equal = refl
then_equal Greater = refl

-- the ways of one part compare as in the row of it alone
alone_same : (j : ℕ) (w v : Way) → within (parts (next j w done)) (parts (next j v done)) ≡ within w v
alone_same j w v =
    sym (λ i. ordering_then (ordering_then (nat_cmp_is j j Equal refl i) (within w v)) Equal) ∙ then_equal (within w v)

alone_stands : (P : ℕ → Type 0) (j : ℕ) (v : Way) (d : Captures) (xs : Listed) → StandsIn P v d xs
    → StandsIn P (parts (next j v done)) d (map (alone j) xs)
alone_stands P j v d [] h = absurd h
alone_stands P j v d (x ∷ xs) (inl here) = inl (here.0, λ greater. here.1 (sym (alone_same j x.0 v) ∙ greater))
alone_stands P j v d (x ∷ xs) (inr rest) = inr (alone_same j x.0 v ∙ rest.0, alone_stands P j v d xs rest.1)

alone_derive : (s : List ℕ) (t : Tree) (i j : ℕ) (c : Captures) (xs : Listed) → j ≤ length s → AllDerive s t i j c xs
    → AllDerive s (cat (then t forms.none)) i j c (map (alone j) xs)
alone_derive s t i j c [] low h = tt
alone_derive s t i j c (x ∷ xs) low h = ((x.1, h.0, (refl, low, refl)), alone_derive s t i j c xs low h.1)

pub over_alone : (s : List ℕ) (t : Tree) (i j : ℕ) (c : Captures) (P : ℕ → Type 0) (xs : Listed) → j ≤ length s
    → AreOver s t i j c P xs → AreOver s (cat (then t forms.none)) i j c P (map (alone j) xs)
over_alone s t i j c P xs low over = record {
  each = alone_derive s t i j c xs low over.each;
  first = stands;
}
  where
    stands : (v : Way) (d : Captures) → Derives s (cat (then t forms.none)) v i j c d → StandsIn P v d (map (alone j) xs)
    stands (parts (next k w done)) d h =
        subst (λ m. StandsIn P (parts (next m w done)) d (map (alone j) xs)) h.2.0
        (subst (λ e. StandsIn P (parts (next j w done)) e (map (alone j) xs)) (sym h.2.2)
        (alone_stands P j w h.0 xs (over.first w h.0 (subst (λ m. Derives s t w i m c h.0) (sym h.2.0) h.1))))
    stands (parts (next k w (next m u us))) d h = absurd h.2
    stands (parts done) d h = absurd h
    stands leaf d h = absurd h
    stands (members vs) d h = absurd h
    stands (chosen k v) d h = absurd h
    stands (inside v) d h = absurd h

-- ALTERNATIVES

abbrev pub in_choice : ℕ → Way × Captures → Way × Captures
in_choice n x = (chosen n x.0, x.1)

-- the ways of one alternative compare as in the alternation
choice_same : (n : ℕ) (w v : Way) → within (chosen n w) (chosen n v) ≡ within w v
choice_same n w v = sym (λ i. ordering_then (nat_cmp_is n n Equal refl i) (within w v))

choice_stands : (P : ℕ → Type 0) (n : ℕ) (v : Way) (d : Captures) (xs : Listed) → StandsIn P v d xs
    → StandsIn P (chosen n v) d (map (in_choice n) xs)
choice_stands P n v d [] h = absurd h
choice_stands P n v d (x ∷ xs) (inl here) =
    inl (here.0, λ greater. here.1 (sym (choice_same n x.0 v) ∙ greater))
choice_stands P n v d (x ∷ xs) (inr rest) =
    inr (choice_same n x.0 v ∙ rest.0, choice_stands P n v d xs rest.1)

-- those of an earlier one are preferred
choice_before : (m n : ℕ) (v : Way) (xs : Listed) → m < n → AllBefore (chosen n v) (map (in_choice m) xs)
choice_before m n v [] low = tt
choice_before m n v (x ∷ xs) low =
    (sym (λ i. ordering_then (nat_cmp_is m n Less low i) (within x.0 v)), choice_before m n v xs low)

choice_derive : (s : List ℕ) (ts : Trees) (n : ℕ) (t : Tree) (i j : ℕ) (c : Captures) (xs : Listed)
    → tree_at ts n ≡ Some t → AllDerive s t i j c xs → AllDerive s (alt ts) i j c (map (in_choice n) xs)
choice_derive s ts n t i j c [] at h = tt
choice_derive s ts n t i j c (x ∷ xs) at h = ((t, at, h.0), choice_derive s ts n t i j c xs at h.1)

-- The list has the derivations of the first so many alternatives, and its ways are preferred to those of the others.
pub record AreOverFirst (s : List ℕ) (ts : Trees) (i j : ℕ) (c : Captures) (P : ℕ → Type 0) (n : ℕ) (all : Listed) : Type 0 where
  pub each : AllDerive s (alt ts) i j c all
  pub first : (k : ℕ) (v : Way) (d : Captures) → k < n → Derives s (alt ts) (chosen k v) i j c d
      → StandsIn P (chosen k v) d all
  pub before : (k : ℕ) (v : Way) → n ≤ k → AllBefore (chosen k v) all

pub over_no_choice : (s : List ℕ) (ts : Trees) (i j : ℕ) (c : Captures) (P : ℕ → Type 0)
    → AreOverFirst s ts i j c P 0 []
over_no_choice s ts i j c P = record {
  each = tt;
  first = λ k v d low h. absurd (omega (arith, low));
  before = λ k v high. tt;
}

at_choice : (s : List ℕ) (ts : Trees) (n : ℕ) (t : Tree) (v : Way) (i j : ℕ) (c d : Captures) → tree_at ts n ≡ Some t
    → Derives s (alt ts) (chosen n v) i j c d → Derives s t v i j c d
at_choice s ts n t v i j c d at h = subst (λ u. Derives s u v i j c d) (some_same h.0 t (sym h.1 ∙ at)) h.2

pub over_more_choices : (s : List ℕ) (ts : Trees) (i j : ℕ) (c : Captures) (P : ℕ → Type 0) (n : ℕ) (t : Tree)
    (xs ys zs : Listed) → tree_at ts n ≡ Some t → AreOverFirst s ts i j c P n xs → AreOver s t i j c P ys
    → ArePut P xs (map (in_choice n) ys) zs → AreOverFirst s ts i j c P (n + 1) zs
over_more_choices s ts i j c P n t xs ys zs at old new put = record {
  each = all_derive s (alt ts) i j c P xs (map (in_choice n) ys) zs put old.each
      (choice_derive s ts n t i j c ys at new.each);
  first = λ k v d low h. elim (cases_lt k n) [
    | inl earlier ↦
        old_stands P (chosen k v) d xs (map (in_choice n) ys) zs put (old.first k v d earlier h)
    | inr late ↦
        let same : n ≡ k = omega (arith, low, late) in
        subst (λ m. StandsIn P (chosen m v) d zs) same
        (new_stands P (chosen n v) d xs (map (in_choice n) ys) zs put (old.before n v (omega arith))
        (choice_stands P n v d ys (new.first v d
        (at_choice s ts n t v i j c d at (subst (λ m. Derives s (alt ts) (chosen m v) i j c d) (sym same) h)))))
  ];
  before = λ k v high. all_before P (chosen k v) xs (map (in_choice n) ys) zs put
      (old.before k v (omega (arith, high))) (choice_before n k v ys (omega (arith, high)));
}

pub over_all_choices : (s : List ℕ) (ts : Trees) (i j : ℕ) (c : Captures) (P : ℕ → Type 0) (n : ℕ) (xs : Listed)
    → AreOverFirst s ts i j c P n xs → ((k : ℕ) (t : Tree) → tree_at ts k ≡ Some t → k < n)
    → AreOver s (alt ts) i j c P xs
over_all_choices s ts i j c P n xs first all = record {
  each = first.each;
  first = stands;
}
  where
    stands : (v : Way) (d : Captures) → Derives s (alt ts) v i j c d → StandsIn P v d xs
    stands (chosen k v) d h = first.first k v d (all k h.0 h.1) h
    stands leaf d h = absurd h
    stands (parts vs) d h = absurd h
    stands (members vs) d h = absurd h
    stands (inside v) d h = absurd h

-- where nothing is read behind, later alternatives add nothing to a list that has one
pub over_enough : (s : List ℕ) (ts : Trees) (i j : ℕ) (c : Captures) (P : ℕ → Type 0) (n : ℕ) (x : Way × Captures)
    (xs : Listed) → ((k : ℕ) → P k → ⊥) → AreOverFirst s ts i j c P n (x ∷ xs) → AreOver s (alt ts) i j c P (x ∷ xs)
over_enough s ts i j c P n x xs none first = record {
  each = first.each;
  first = stands;
}
  where
    stands : (v : Way) (d : Captures) → Derives s (alt ts) v i j c d → StandsIn P v d (x ∷ xs)
    stands (chosen k v) d h = elim (cases_lt k n) [
      | inl low ↦ first.first k v d low h
      | inr high ↦
          inl (
            (λ m p. absurd (none m p)),
            λ greater. less_not_greater (within x.0 (chosen k v)) (first.before k v high).0 greater,
          )
    ]
    stands leaf d h = absurd h
    stands (parts vs) d h = absurd h
    stands (members vs) d h = absurd h
    stands (inside v) d h = absurd h
