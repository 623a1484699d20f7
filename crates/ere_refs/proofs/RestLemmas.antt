-- What is left of a concatenation or of a repeat: where it ends, how its first part or member splits off, and that captures
-- which agree on what is read from there on leave the same. The hard one is `members_split`: a member past the minimum isn't
-- empty.
use Rattle.std.proofs.Common.{◌≡◌, ℕ, zero, suc, ◌+◌, ◌-◌, ◌<◌, ◌≤◌, Option, Some, None, List, [], ◌∷◌, drop, length, refl, sym, ap, ◌∙◌, subst, ◌⊎◌, inl, inr, arith}
use Rattle.std.proofs.Math.Seq.{drop-nil}
use Rattle.std.specs.Prelude.{IfSome}
use Rattle.std.specs.Option.{option_map}
use Rattle.std.specs.FinMap.{get}
use Rattle.ere_refs.proofs.AgreeLemmas.{alike, each_alike}
use Rattle.ere_refs.proofs.LiveLemmas.{live_same}
use Rattle.ere_refs.specs.Course.{Fits, members_behind, parts_behind}
use Rattle.ere_refs.specs.Lists.{AreOver, Listed, StandsIn}
use Rattle.ere_refs.specs.Live.{ReadsBefore}
use Rattle.ere_refs.specs.Refers.{Agree, Refers}
use Rattle.ere_tree.proofs.DerivationLemmas.{all_are_part, each_is_part}
use Rattle.ere_tree.specs.Captures.{Captures}
use Rattle.ere_tree.specs.Derivation.{Way, Ways, done, next, count_of, Derives, DerivesAll, DerivesEach}
use Rattle.ere_tree.specs.Tree.{Tree, none, then, trees_of}

-- PARTS

not_cons : (t : Tree) (us : List Tree) → [] ≡ t ∷ us → ⊥
not_cons t us is = let long = ap length is in absurd (omega (arith, long))

pub drop_next : (ts : List Tree) (n : ℕ) (t : Tree) (us : List Tree) → drop n ts ≡ t ∷ us → drop (suc n) ts ≡ us
drop_next [] n t us is = absurd (not_cons t us (sym (drop-nil n) ∙ is))
drop_next (x ∷ xs) zero t us is = ap (drop 1) is
drop_next (x ∷ xs) (suc n) t us is = drop_next xs n t us is

module _ (s : List ℕ) (ts : List Tree) (j : ℕ) where
  pub parts_end : (n p : ℕ) (c : Captures) → drop n ts ≡ [] → (rs : Ways) (e : Captures)
      → parts_behind s ts j n rs p c e → (rs ≡ done) × (e ≡ c)
  parts_end n p c gone rs e rest = each rs (subst (λ us. DerivesAll s (trees_of us) rs p j c e) gone rest)
    where
      each : (rs : Ways) → DerivesAll s none rs p j c e → (rs ≡ done) × (e ≡ c)
      each done h = (refl, h.2)
      each (next k w ws) h = absurd h

  pub parts_fit : (n p : ℕ) (c : Captures) (t : Tree) (others : List Tree) → drop n ts ≡ t ∷ others → (rs : Ways)
      (e : Captures) → parts_behind s ts j n rs p c e → Fits (Some (suc j)) rs
  parts_fit n p c t others is rs e rest = each rs (subst (λ us. DerivesAll s (trees_of us) rs p j c e) is rest)
    where
      each : (rs : Ways) → DerivesAll s (then t (trees_of others)) rs p j c e → Fits (Some (suc j)) rs
      each done h = absurd h
      each (next k w ws) h = omega (arith, (all_are_part s (trees_of others) ws k j h.0 e h.2).0)

  pub parts_split : (n p high : ℕ) (c : Captures) (t : Tree) (Q : ℕ → Type 0) (ys : Listed)
      → drop n ts ≡ t ∷ drop (suc n) ts → AreOver s t p high c Q ys → (w : Way) (rs : Ways) (e : Captures)
      → parts_behind s ts j n (next high w rs) p c e
      → (b : Captures) × StandsIn Q w b ys × parts_behind s ts j (suc n) rs high b e
  parts_split n p high c t Q ys is over w rs e rest =
      let h = subst (λ us. DerivesAll s (trees_of us) (next high w rs) p j c e) is rest in
      (h.0, over.first w h.0 h.1, h.2)

  -- part by part, from what is read before each to what is read behind it
  pub parts_same : (P : ℕ → Type 0) (lives : ℕ → ℕ → Type 0)
      → ((k : ℕ) (t : Tree) (others : List Tree) → drop k ts ≡ t ∷ others → ReadsBefore t (lives k) (lives (suc k)))
      → ((k : ℕ) → drop k ts ≡ [] → (g : ℕ) → P g → lives k g) → (us : List Tree) (n p : ℕ) → drop n ts ≡ us → (rs : Ways)
      (b a e : Captures) → Agree (lives n) b a → DerivesAll s (trees_of us) rs p j b e
      → (f : Captures) × DerivesAll s (trees_of us) rs p j a f × Agree P e f
  parts_same P lives reads last [] n p is done b a e same rest = (
    a,
    (rest.0, rest.1, refl),
    λ g read. ap (λ x. get x g) rest.2 ∙ same g (last n is g read),
  )
  parts_same P lives reads last [] n p is (next k w ws) b a e same rest = absurd rest
  parts_same P lives reads last (t ∷ us) n p is done b a e same rest = absurd rest
  parts_same P lives reads last (t ∷ us) n p is (next k w ws) b a e same rest =
      let one = live_same s t (lives n) (lives (suc n)) (reads n t us is) w p k b rest.0 a same rest.1 in
      let others = parts_same P lives reads last us (suc n) k (drop_next ts n t us is) ws rest.0 one.0 e one.2 rest.2 in
      (others.0, (one.0, one.1, others.1), others.2)

  pub parts_join : (n p high : ℕ) (c : Captures) (t : Tree) → drop n ts ≡ t ∷ drop (suc n) ts → (w : Way) (b : Captures)
      (rs : Ways) (e : Captures) → Derives s t w p high c b → parts_behind s ts j (suc n) rs high b e
      → parts_behind s ts j n (next high w rs) p c e
  parts_join n p high c t is w b rs e shows rest =
      subst (λ us. DerivesAll s (trees_of us) (next high w rs) p j c e) (sym is) (b, shows, rest)

-- MEMBERS

each_split : (s : List ℕ) (t : Tree) (least : ℕ) (k : ℕ) (w : Way) (ws : Ways) (i j : ℕ) (c d : Captures)
    → DerivesEach s t least (next k w ws) i j c d
    → (e : Captures) × Derives s t w i k c e × (least ≡ 0 → i < k) × DerivesEach s t (least - 1) ws k j e d
each_split s t zero k w ws i j c d h = (h.0, h.1, (λ none. h.2), h.3)
each_split s t (suc least) k w ws i j c d h =
    let one_less : least ≡ suc least - 1 = omega arith in
    (h.0, h.1, (λ none. absurd (omega (arith, none))), subst (λ x. DerivesEach s t x ws k j h.0 d) one_less h.2)

each_join : (s : List ℕ) (t : Tree) (least : ℕ) (k : ℕ) (w : Way) (ws : Ways) (i j : ℕ) (c e d : Captures)
    → Derives s t w i k c e → (least ≡ 0 → i < k) → DerivesEach s t (least - 1) ws k j e d
    → DerivesEach s t least (next k w ws) i j c d
each_join s t zero k w ws i j c e d h some rest = (e, h, some refl, rest)
each_join s t (suc least) k w ws i j c e d h some rest =
    let one_less : suc least - 1 ≡ least = omega arith in
    (e, h, subst (λ x. DerivesEach s t x ws k j e d) one_less rest)

fewer : (most : Option ℕ) (n k : ℕ) → IfSome (option_map (λ m. m - n) most) (λ x. k + 1 ≤ x)
    → IfSome (option_map (λ m. m - suc n) most) (λ x. k ≤ x)
fewer None n k h = tt
fewer (Some m) n k h = omega (arith, h)

-- members, from what is read between them on
each_live : (s : List ℕ) (t : Tree) (Q P : ℕ → Type 0) → ((g : ℕ) → Refers t g → Q g) → ((g : ℕ) → P g → Q g) → (least : ℕ)
    (ws : Ways) (i j : ℕ) (c d b : Captures) → Agree Q c b → DerivesEach s t least ws i j c d
    → (e : Captures) × DerivesEach s t least ws i j b e × Agree P d e
each_live s t Q P refers stays least ws i j c d b same h =
    let one = each_alike s Q t (alike s Q t refers) least ws i j c d b same h in
    (one.0, one.1, λ g read. one.2 g (stays g read))

module _ (s : List ℕ) (t : Tree) (least : ℕ) (most : Option ℕ) (j : ℕ) where
  pub members_end : (n : ℕ) (c : Captures) → least ≤ n → (rs : Ways) (e : Captures)
      → members_behind s t least most j n rs j c e → (rs ≡ done) × (e ≡ c)
  members_end n c past done e rest = (refl, rest.1.2)
  members_end n c past (next k w ws) e rest =
      let one = each_split s t (least - n) k w ws j j c e rest.1 in
      let later = one.2 (omega (arith, past)) in
      let low = each_is_part s t (least - n - 1) ws k j one.0 e one.3 in
      absurd (omega (arith, later, low.0))

  pub members_fit : (n p : ℕ) (c : Captures) → (p < j) ⊎ (n < least) → (rs : Ways) (e : Captures)
      → members_behind s t least most j n rs p c e → Fits (Some (suc j)) rs
  members_fit n p c (inl short) done e rest = absurd (omega (arith, short, rest.1.0))
  members_fit n p c (inr few) done e rest = absurd (omega (arith, few, rest.0.0))
  members_fit n p c more (next k w ws) e rest =
      let one = each_split s t (least - n) k w ws p j c e rest.1 in
      omega (arith, (each_is_part s t (least - n - 1) ws k j one.0 e one.3).0)

  -- where there may be no more members, and too few are there, nothing goes on
  pub members_none : (n p m : ℕ) (c : Captures) → most ≡ Some m → m ≤ n → (p < j) ⊎ (n < least) → (rs : Ways)
      (e : Captures) → members_behind s t least most j n rs p c e → ⊥
  members_none n p m c is all more rs e rest = none more rs rest
    where
      none : (p < j) ⊎ (n < least) → (rs : Ways) → members_behind s t least most j n rs p c e → ⊥
      none (inl short) done h = omega (arith, short, h.1.0)
      none (inr few) done h = omega (arith, few, h.0.0)
      none either (next k w ws) h =
          let bound = subst (λ x. IfSome (option_map (λ y. y - n) x) (λ x. count_of (next k w ws) ≤ x)) is h.0.1 in
          omega (arith, bound, all)

  pub members_split : (n p high : ℕ) (c : Captures) (Q : ℕ → Type 0) (ys : Listed) → AreOver s t p high c Q ys
      → (w : Way) (rs : Ways) (e : Captures) → members_behind s t least most j n (next high w rs) p c e
      → (b : Captures) × StandsIn Q w b ys × members_behind s t least most j (suc n) rs high b e
  members_split n p high c Q ys over w rs e rest =
      let one = each_split s t (least - n) high w rs p j c e rest.1 in
      let fewer_left : least - n - 1 ≡ least - suc n = omega arith in (
        one.0,
        over.first w one.0 one.1,
        (
          (omega (arith, rest.0.0), fewer most n (count_of rs) rest.0.1),
          subst (λ x. DerivesEach s t x rs high j one.0 e) fewer_left one.3,
        ),
      )

  -- how the first member splits off
  pub members_part : (n p high : ℕ) (c e : Captures) (w : Way) (rs : Ways)
      → members_behind s t least most j n (next high w rs) p c e
      → (b : Captures) × Derives s t w p high c b × (least ≤ n → p < high) × members_behind s t least most j (suc n) rs high b e
  members_part n p high c e w rs rest =
      let one = each_split s t (least - n) high w rs p j c e rest.1 in
      let fewer_left : least - n - 1 ≡ least - suc n = omega arith in (
        one.0,
        one.1,
        (λ past. one.2 (omega (arith, past))),
        (
          (omega (arith, rest.0.0), fewer most n (count_of rs) rest.0.1),
          subst (λ x. DerivesEach s t x rs high j one.0 e) fewer_left one.3,
        ),
      )

  pub members_more : (n : ℕ) → most ≡ None → least ≤ n → (rs : Ways) (p : ℕ) (c e : Captures)
      → members_behind s t least most j n rs p c e → members_behind s t least most j (suc n) rs p c e
  members_more n is past rs p c e rest =
      let none : least - n ≡ least - suc n = omega (arith, past) in (
        (omega (arith, past), subst (λ x. IfSome (option_map (λ y. y - suc n) x) (λ x. count_of rs ≤ x)) (sym is) tt),
        subst (λ x. DerivesEach s t x rs p j c e) none rest.1,
      )

  -- members past the minimum aren't counted where there is no most
  pub members_past : (n : ℕ) → most ≡ None → least ≤ n → (rs : Ways) (p : ℕ) (c e : Captures)
      → members_behind s t least most j (suc n) rs p c e → members_behind s t least most j n rs p c e
  members_past n is past rs p c e rest =
      let none : least - suc n ≡ least - n = omega (arith, past) in (
        (omega (arith, past), subst (λ x. IfSome (option_map (λ y. y - n) x) (λ x. count_of rs ≤ x)) (sym is) tt),
        subst (λ x. DerivesEach s t x rs p j c e) none rest.1,
      )

  pub members_same : (P Q : ℕ → Type 0) → ((g : ℕ) → Refers t g → Q g) → ((g : ℕ) → P g → Q g) → (n p : ℕ) (rs : Ways)
      (b a e : Captures) → Agree Q b a → members_behind s t least most j n rs p b e
      → (f : Captures) × members_behind s t least most j n rs p a f × Agree P e f
  members_same P Q refers stays n p rs b a e same rest =
      let one = each_live s t Q P refers stays (least - n) rs p j b e a same rest.1 in
      (one.0, (rest.0, one.1), one.2)

  -- where a member follows, what it surely sets needn't be the same before it
  pub members_same_open : (P Q E : ℕ → Type 0) (n p : ℕ) → (p < j) ⊎ (n < least) → ReadsBefore t E Q
      → ((g : ℕ) → Refers t g → Q g)
      → ((g : ℕ) → P g → Q g) → (rs : Ways) (b a e : Captures) → Agree E b a
      → members_behind s t least most j n rs p b e → (f : Captures) × members_behind s t least most j n rs p a f × Agree P e f
  members_same_open P Q E n p more enters refers stays done b a e same rest =
      absurd (members_fit n p b more done e rest)
  members_same_open P Q E n p more enters refers stays (next k w ws) b a e same rest =
      let first = each_split s t (least - n) k w ws p j b e rest.1 in
      let one = live_same s t E Q enters w p k b first.0 a same first.1 in
      let others = each_live s t Q P refers stays (least - n - 1) ws k j first.0 e one.0 one.2 first.3 in (
        others.0,
        (rest.0, each_join s t (least - n) k w ws p j a one.0 others.0 one.1 first.2 others.1),
        others.2,
      )

  one_more : (bound : Option ℕ) (n k : ℕ) → IfSome bound (λ m. n < m) → IfSome (option_map (λ m. m - suc n) bound) (λ x. k ≤ x)
      → IfSome (option_map (λ m. m - n) bound) (λ x. k + 1 ≤ x)
  one_more None n k some h = tt
  one_more (Some m) n k some h = omega (arith, some, h)

  pub members_join : (n p high : ℕ) (c : Captures) → IfSome most (λ m. n < m) → (least ≤ n → p < high) → (w : Way)
      (b : Captures) (rs : Ways) (e : Captures) → Derives s t w p high c b
      → members_behind s t least most j (suc n) rs high b e → members_behind s t least most j n (next high w rs) p c e
  members_join n p high c some further w b rs e shows rest =
      let fewer_left : least - suc n ≡ least - n - 1 = omega arith in (
        (omega (arith, rest.0.0), one_more most n (count_of rs) some rest.0.1),
        each_join s t (least - n) high w rs p j c b e shows (λ none. further (omega (arith, none)))
            (subst (λ x. DerivesEach s t x rs high j b e) fewer_left rest.1),
      )
