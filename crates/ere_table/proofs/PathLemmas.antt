-- A tree that stands in a table derives what paths of the table lead through: what derives is led through.
-- By induction on the tree: the path of each part ends where that of the next begins.
-- The hard one is `repeat_leads`, copies that have to be there, then copies that may, or a loop.
use Rattle.std.proofs.Common.{◌≡◌, ℕ, Option, Some, None, List, [], ◌∷◌, ◌+◌, ◌-◌, ◌<◌, ◌≤◌, zero, suc, length, take, drop, refl, sym, ap, ◌∙◌, subst, inl, inr, arith, slice_index}
use Rattle.std.proofs.Math.Seq.{drop-cons}
use Rattle.std.proofs.lemmas.Option.{none-some}
use Rattle.ere_tree.specs.Tree.{Tree, Trees, empty, plain, set, line_start, line_end, cat, alt, repeat, group, back, none, then}
use Rattle.ere_tree.specs.Captures.{Captures}
use Rattle.ere_tree.specs.Derivation.{Way, Ways, leaf, parts, members, chosen, inside, done, next, Derives, DerivesAll, DerivesEach, tree_at, part, IsPart, CanRepeat, count_of}
use Rattle.ere_table.specs.Node.{Node, byte, fork, at_start, at_end}
use Rattle.ere_table.specs.Path.{Edge, Path, Leads}
use Rattle.ere_table.specs.Stands.{PlainStands, LoopStands, CopiesStand, RepeatStands, Stands, AllStand, OneStands}
use Rattle.ere_tree.proofs.DerivationLemmas.{length-part}
use Rattle.ere_tree.proofs.CapturesLemmas.{some_same}

pub append : (s : List ℕ) (T : ℕ → Node) (k l q i r m p j : ℕ) → Path s T k q i r m → Path s T l r m p j
    → Leads s T q i p j
append s T zero l q i r m p j h g = (l, subst (λ x. Path s T l x i p j) h.0 (subst (λ x. Path s T l r x p j) h.1 g))
append s T (suc k) l q i r m p j h g =
    let rest = append s T k l h.0 h.1 r m p j h.3 g in
    (suc rest.0, (h.0, h.1, h.2, rest.1))

pub joined : (s : List ℕ) (T : ℕ → Node) (q i r m p j : ℕ) → Leads s T q i r m → Leads s T r m p j → Leads s T q i p j
joined s T q i r m p j h g = append s T h.0 g.0 q i r m p j h.1 g.1

first : (s : List ℕ) (T : ℕ → Node) (node : Node) (q i r m p j : ℕ) → T q ≡ node → Edge s node i r m
    → Leads s T r m p j → Leads s T q i p j
first s T node q i r m p j e h g = (suc g.0, (r, m, subst (λ x. Edge s x i r m) (sym e) h, g.1))

here : (s : List ℕ) (T : ℕ → Node) (q i p j : ℕ) → p ≡ q → j ≡ i → Leads s T q i p j
here s T q i p j e f = (0, (e, f))

-- PARTS

pub part_more : (s : List ℕ) (i j : ℕ) → i < j → j ≤ length s → part s i j ≡ slice_index s i ∷ part s (i + 1) j
part_more s i j a b =
    let n : j - i ≡ suc (j - (i + 1)) = omega (arith, a) in
    (λ k. take (n k) (drop-cons s i 0 (omega (arith, a, b)) k))
    ∙ (λ k. slice_index s i ∷ take (j - (i + 1)) (drop (one i k) s))
  where
    one : (i : ℕ) → suc i ≡ i + 1
    one i = omega arith

pub part_none : (s : List ℕ) (i : ℕ) → part s i i ≡ []
part_none s i = ap (λ k. take k (drop i s)) (gone i)
  where
    gone : (i : ℕ) → i - i ≡ 0
    gone i = omega arith

plain_leads : (s : List ℕ) (T : ℕ → Node) (bytes : List ℕ) (e n i j : ℕ) → PlainStands T bytes e n → IsPart s i j
    → part s i j ≡ bytes → Leads s T e i n j
plain_leads s T [] e n i j h p g = here s T e i n j (sym h) (omega (arith, length-part s i j p.0 p.1, ap length g, p.0))
plain_leads s T (b ∷ bs) e n i j h p g =
    let long : j - i ≡ suc (length bs) = sym (length-part s i j p.0 p.1) ∙ ap length g in
    let both = sym (part_more s i j (omega (arith, long)) p.1) ∙ g in
    first s T (byte (b ∷ []) h.0) e i h.0 (i + 1) n j h.1
    (refl, refl, omega (arith, long, p.1), (0, omega arith, sym (ap (λ xs. slice_index xs 0) both)))
    (plain_leads s T bs h.0 n (i + 1) j h.2 (omega (arith, long), p.1) (ap (drop 1) both))

-- WHAT DERIVES IS LED THROUGH

-- a tree's derivations are led through by a table in which it stands
abbrev pub IsComplete : List ℕ → (ℕ → Node) → Tree → Type 0
IsComplete s T t = (e n : ℕ) (w : Way) (i j : ℕ) (c d : Captures) → Stands T t e n → Derives s t w i j c d
    → Leads s T e i n j

loop_leads : (s : List ℕ) (T : ℕ → Node) (t : Tree) → IsComplete s T t
    → (least : ℕ) (ws : Ways) (e n i j : ℕ) (c d : Captures) → LoopStands T (Stands T t) least e n
    → least ≤ count_of ws → DerivesEach s t least ws i j c d → Leads s T e i n j
loop_leads s T t all zero done e n i j c d h m g =
    first s T (fork h.0 n) e i n i n j h.1 (inr refl, refl) (here s T n i n j refl g.0)
loop_leads s T t all zero (next k w ws) e n i j c d h m g =
    first s T (fork h.0 n) e i h.0 i n j h.1 (inl refl, refl)
    (joined s T h.0 i e k n j (all h.0 e w i k c g.0 h.2 g.1)
    (loop_leads s T t all zero ws e n k j g.0 d h (omega arith) g.3))
loop_leads s T t all (suc least) done e n i j c d h m g = absurd (omega (arith, m))
loop_leads s T t all (suc least) (next k w ws) e n i j c d h m g =
    joined s T e i h.0 k n j (all e h.0 w i k c g.0 h.1 g.1)
    (loop_leads s T t all least ws h.0 n k j g.0 d h.2 (omega (arith, m)) g.2)

copies_lead : (s : List ℕ) (T : ℕ → Node) (t : Tree) → IsComplete s T t
    → (least most : ℕ) (ws : Ways) (e n i j : ℕ) (c d : Captures) → CopiesStand T (Stands T t) least most e n
    → least ≤ count_of ws → count_of ws ≤ most → DerivesEach s t least ws i j c d → Leads s T e i n j
copies_lead s T t all zero zero done e n i j c d h m u g = here s T e i n j (sym h) g.0
copies_lead s T t all zero zero (next k w ws) e n i j c d h m u g = absurd (omega (arith, u))
copies_lead s T t all zero (suc most) done e n i j c d h m u g =
    first s T (fork h.0 n) e i n i n j h.2 (inr refl, refl) (here s T n i n j refl g.0)
copies_lead s T t all zero (suc most) (next k w ws) e n i j c d h m u g =
    first s T (fork h.0 n) e i h.0 i n j h.2 (inl refl, refl)
    (joined s T h.0 i h.1 k n j (all h.0 h.1 w i k c g.0 h.3 g.1)
    (copies_lead s T t all zero most ws h.1 n k j g.0 d h.4 (omega arith) (omega (arith, u)) g.3))
copies_lead s T t all (suc least) most done e n i j c d h m u g = absurd (omega (arith, m))
copies_lead s T t all (suc least) zero (next k w ws) e n i j c d h m u g = absurd (omega (arith, u))
copies_lead s T t all (suc least) (suc most) (next k w ws) e n i j c d h m u g =
    joined s T e i h.0 k n j (all e h.0 w i k c g.0 h.1 g.1)
    (copies_lead s T t all least most ws h.0 n k j g.0 d h.2 (omega (arith, m)) (omega (arith, u)) g.2)

repeat_leads : (s : List ℕ) (T : ℕ → Node) (t : Tree) → IsComplete s T t
    → (least : ℕ) (most : Option ℕ) (ws : Ways) (e n i j : ℕ) (c d : Captures)
    → RepeatStands T (Stands T t) least most e n
    → CanRepeat least most (count_of ws) → DerivesEach s t least ws i j c d → Leads s T e i n j
repeat_leads s T t all least None ws e n i j c d h m g = loop_leads s T t all least ws e n i j c d h m.0 g
repeat_leads s T t all least (Some most) ws e n i j c d h m g =
    copies_lead s T t all least most ws e n i j c d h m.0 m.1 g

mutual
  pub complete : (s : List ℕ) (T : ℕ → Node) (t : Tree) → IsComplete s T t
  complete s T empty e n leaf i j c d h g = here s T e i n j (sym h) g.0
  complete s T (plain bytes) e n leaf i j c d h g = plain_leads s T bytes e n i j h g.0 g.1
  complete s T (set bytes) e n leaf i j c d h g =
      first s T (byte bytes n) e i n j n j h (refl, g.0, g.1, g.2) (here s T n j n j refl refl)
  complete s T line_start e n leaf i j c d h g =
      first s T (at_start n) e i n j n j h (refl, g.0, g.1) (here s T n j n j refl refl)
  complete s T line_end e n leaf i j c d h g =
      first s T (at_end n) e i n j n j h (refl, g.0, g.1) (here s T n j n j refl refl)
  complete s T (cat all) e n (parts ws) i j c d h g = all_complete s T all ws e n i j c d h g
  complete s T (alt all) e n (chosen k w) i j c d h g = one_complete s T all k e n g.0 w i j c d h g.1 g.2
  complete s T (repeat inner least most) e n (members ws) i j c d h g =
      repeat_leads s T inner (complete s T inner) least most ws e n i j c d h g.0 g.1
  complete s T (group number inner) e n (inside w) i j c d h g = complete s T inner e n w i j c g.0 h g.1
  complete s T (back number fold) e n w i j c d h g = absurd h
  complete s T t e n w i j c d h g = absurd g

  all_complete : (s : List ℕ) (T : ℕ → Node) (ts : Trees) (ws : Ways) (e n i j : ℕ) (c d : Captures)
      → AllStand T ts e n → DerivesAll s ts ws i j c d → Leads s T e i n j
  all_complete s T none done e n i j c d h g = here s T e i n j (sym h) g.0
  all_complete s T (then t ts) (next k w ws) e n i j c d h g =
      joined s T e i h.0 k n j (complete s T t e h.0 w i k c g.0 h.1 g.1)
      (all_complete s T ts ws h.0 n k j g.0 d h.2 g.2)
  all_complete s T ts ws e n i j c d h g = absurd g

  one_complete : (s : List ℕ) (T : ℕ → Node) (ts : Trees) (k e n : ℕ) (t : Tree) (w : Way) (i j : ℕ) (c d : Captures)
      → OneStands T ts e n → tree_at ts k ≡ Some t → Derives s t w i j c d → Leads s T e i n j
  one_complete s T none k e n t w i j c d h f g = absurd (none-some t f)
  one_complete s T (then u ts) zero e n t w i j c d h f g =
      first s T (fork h.0 h.1) e i h.0 i n j h.2 (inl refl, refl)
      (complete s T u h.0 n w i j c d h.3 (subst (λ x. Derives s x w i j c d) (sym (some_same u t f)) g))
  one_complete s T (then u ts) (suc k) e n t w i j c d h f g =
      first s T (fork h.0 h.1) e i h.1 i n j h.2 (inr refl, refl)
      (one_complete s T ts k h.1 n t w i j c d h.4 f g)
