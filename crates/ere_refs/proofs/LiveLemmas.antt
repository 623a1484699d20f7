-- What isn't read any more may be dropped: from captures that agree on what is read before a tree, the same way derives the
-- same part, and leaves captures that agree on what is read behind it. By `alike`, for groups that are handed on, and by
-- `same_behind`, the hard one, for those that the tree surely sets: the same way sets them to the same.
use Rattle.std.proofs.Common.{◌≡◌, ◌≢◌, ℕ, zero, suc, ◌<◌, ◌≤◌, ◌==◌, ◌&&◌, ◌||◌, Bool, true, false, Some, List, refl, sym, ap, ◌∙◌, subst, ◌⊎◌, inl, inr, arith, true≢false, nat_lt}
use Rattle.std.proofs.lemmas.Bool.{and_parts, cases_eq, ltb-true, ne_eqb}
use Rattle.std.proofs.lemmas.Option.{none-some}
use Rattle.std.specs.FinMap.{get, insert}
use Rattle.ere_captures.proofs.KeepLemmas.{get_set, get_other}
use Rattle.ere_refs.proofs.AgreeLemmas.{alike}
use Rattle.ere_refs.specs.Live.{ReadsBefore, surely_sets, one_surely_sets, all_surely_set}
use Rattle.ere_refs.specs.Refers.{Agree}
use Rattle.ere_tree.proofs.CapturesLemmas.{some_same}
use Rattle.ere_tree.specs.Captures.{Captures}
use Rattle.ere_tree.specs.Derivation.{Way, Ways, leaf, parts, members, chosen, inside, done, next, Derives, DerivesAll, DerivesEach, count_of, tree_at}
use Rattle.ere_tree.specs.Tree.{Tree, Trees, empty, plain, set, line_start, line_end, cat, alt, repeat, group, back, none, then}

either : (a b : Bool) → (a || b) ≡ true → (a ≡ true) ⊎ (b ≡ true)
either true b e = inl refl
either false b e = inr e

-- a group is the same before, or the test tells that it is set
abbrev pub SameOr : Captures → Captures → ℕ → Bool → Type 0
SameOr c b n test = (get c n ≡ get b n) ⊎ (test ≡ true)

-- the same way from two captures leaves a group the same, where it was so before or is surely set
abbrev pub IsSameBehind : List ℕ → Tree → ℕ → Type 0
IsSameBehind s t n =
    (w : Way) (i j : ℕ) (c d b e : Captures) → Derives s t w i j c d → Derives s t w i j b e
    → SameOr c b n (surely_sets t n) → get d n ≡ get e n

same_leaf : (n : ℕ) (c d b e : Captures) → d ≡ c → e ≡ b → SameOr c b n false → get d n ≡ get e n
same_leaf n c d b e x y (inl same) = ap (λ z. get z n) x ∙ same ∙ sym (ap (λ z. get z n) y)
same_leaf n c d b e x y (inr not) = absurd (true≢false (sym not))

-- a group is set in both to the same
same_set : (n number : ℕ) (p : ℕ × ℕ) (c d b e : Captures) → d ≡ insert c number p → e ≡ insert b number p
    → (n ≢ number → get c n ≡ get b n) → get d n ≡ get e n
same_set n number p c d b e x y other = elim (cases_eq n number) [
  | inl own ↦
      ap (get d) own ∙ ap (λ z. get z number) x ∙ get_set c number p
      ∙ sym (ap (get e) own ∙ ap (λ z. get z number) y ∙ get_set b number p)
  | inr differ ↦
      ap (λ z. get z n) x ∙ get_other c number p n differ ∙ other differ
      ∙ sym (ap (λ z. get z n) y ∙ get_other b number p n differ)
]

each_same_behind : (s : List ℕ) (t : Tree) (n : ℕ) → IsSameBehind s t n → (least : ℕ) (ws : Ways) (i j : ℕ)
    (c d b e : Captures) → least ≤ count_of ws → DerivesEach s t least ws i j c d → DerivesEach s t least ws i j b e
    → SameOr c b n (nat_lt 0 least && surely_sets t n) → get d n ≡ get e n
each_same_behind s t n f least done i j c d b e fits h g (inl same) = same_leaf n c d b e h.2 g.2 (inl same)
each_same_behind s t n f least done i j c d b e fits h g (inr sure) =
    let some : 0 < least = ltb-true 0 least (and_parts (nat_lt 0 least) (surely_sets t n) sure).0 in
    absurd (omega (arith, some, fits))
each_same_behind s t n f zero (next k w ws) i j c d b e fits h g (inl same) =
    each_same_behind s t n f zero ws k j h.0 d g.0 e (omega arith) h.3 g.3
    (inl (f w i k c h.0 b g.0 h.1 g.1 (inl same)))
each_same_behind s t n f zero (next k w ws) i j c d b e fits h g (inr sure) =
    absurd (true≢false (sym sure))
each_same_behind s t n f (suc least) (next k w ws) i j c d b e fits h g (inl same) =
    each_same_behind s t n f least ws k j h.0 d g.0 e (omega (arith, fits)) h.2 g.2
    (inl (f w i k c h.0 b g.0 h.1 g.1 (inl same)))
each_same_behind s t n f (suc least) (next k w ws) i j c d b e fits h g (inr sure) =
    each_same_behind s t n f least ws k j h.0 d g.0 e (omega (arith, fits)) h.2 g.2
    (inl (f w i k c h.0 b g.0 h.1 g.1 (inr (and_parts (nat_lt 0 (suc least)) (surely_sets t n) sure).1)))

mutual
  pub same_behind : (s : List ℕ) (t : Tree) (n : ℕ) → IsSameBehind s t n
  same_behind s empty n leaf i j c d b e h g same = same_leaf n c d b e h.2 g.2 same
  same_behind s (plain bytes) n leaf i j c d b e h g same = same_leaf n c d b e h.2 g.2 same
  same_behind s (set bytes) n leaf i j c d b e h g same = same_leaf n c d b e h.3 g.3 same
  same_behind s line_start n leaf i j c d b e h g same = same_leaf n c d b e h.2 g.2 same
  same_behind s line_end n leaf i j c d b e h g same = same_leaf n c d b e h.2 g.2 same
  same_behind s (back number fold) n leaf i j c d b e h g same = same_leaf n c d b e h.4 g.4 same
  same_behind s (cat ts) n (parts ws) i j c d b e h g same = all_same_behind s ts n ws i j c d b e h g same
  same_behind s (alt ts) n (chosen k w) i j c d b e h g same =
      one_same_behind s ts n k h.0 h.1 w i j c d b e h.2
      (subst (λ u. Derives s u w i j b e) (some_same g.0 h.0 (sym g.1 ∙ h.1)) g.2) same
  same_behind s (repeat t least most) n (members ws) i j c d b e h g same =
      each_same_behind s t n (same_behind s t n) least ws i j c d b e h.0.0 h.1 g.1 same
  same_behind s (group number t) n (inside w) i j c d b e h g (inl same) =
      same_set n number (i, j) h.0 d g.0 e h.2 g.2
      (λ other. same_behind s t n w i j c h.0 b g.0 h.1 g.1 (inl same))
  same_behind s (group number t) n (inside w) i j c d b e h g (inr sure) =
      same_set n number (i, j) h.0 d g.0 e h.2 g.2
      (λ other. elim (either (number == n) (surely_sets t n) sure) [
        | inl own ↦ absurd (true≢false (sym own ∙ ne_eqb number n (λ x. other (sym x))))
        | inr inner ↦ same_behind s t n w i j c h.0 b g.0 h.1 g.1 (inr inner)
      ])
  same_behind s t n w i j c d b e h g same = absurd h

  pub all_same_behind : (s : List ℕ) (ts : Trees) (n : ℕ) (ws : Ways) (i j : ℕ) (c d b e : Captures)
      → DerivesAll s ts ws i j c d → DerivesAll s ts ws i j b e → SameOr c b n (one_surely_sets ts n)
      → get d n ≡ get e n
  all_same_behind s none n done i j c d b e h g same = same_leaf n c d b e h.2 g.2 same
  all_same_behind s (then t ts) n (next k w ws) i j c d b e h g (inl same) =
      all_same_behind s ts n ws k j h.0 d g.0 e h.2 g.2
      (inl (same_behind s t n w i k c h.0 b g.0 h.1 g.1 (inl same)))
  all_same_behind s (then t ts) n (next k w ws) i j c d b e h g (inr sure) =
      all_same_behind s ts n ws k j h.0 d g.0 e h.2 g.2
      (elim (either (surely_sets t n) (one_surely_sets ts n) sure) [
        | inl first ↦ inl (same_behind s t n w i k c h.0 b g.0 h.1 g.1 (inr first))
        | inr rest ↦ inr rest
      ])
  all_same_behind s ts n ws i j c d b e h g same = absurd h

  one_same_behind : (s : List ℕ) (ts : Trees) (n k : ℕ) (t : Tree) → tree_at ts k ≡ Some t → (w : Way) (i j : ℕ)
      (c d b e : Captures) → Derives s t w i j c d → Derives s t w i j b e → SameOr c b n (all_surely_set ts n)
      → get d n ≡ get e n
  one_same_behind s none n k t at w i j c d b e h g same = absurd (none-some t at)
  one_same_behind s (then u ts) n zero t at w i j c d b e h g same =
      let is : t ≡ u = sym (some_same u t at) in
      same_behind s u n w i j c d b e (subst (λ x. Derives s x w i j c d) is h)
      (subst (λ x. Derives s x w i j b e) is g) (elim same [
        | inl before ↦ inl before
        | inr sure ↦ inr (and_parts (surely_sets u n) (all_surely_set ts n) sure).0
      ])
  one_same_behind s (then u ts) n (suc k) t at w i j c d b e h g same =
      one_same_behind s ts n k t at w i j c d b e h g (elim same [
        | inl before ↦ inl before
        | inr sure ↦ inr (and_parts (surely_sets u n) (all_surely_set ts n) sure).1
      ])

-- WHAT IS DROPPED MAKES NO DIFFERENCE

pub live_same : (s : List ℕ) (t : Tree) (P Q : ℕ → Type 0) → ReadsBefore t P Q → (w : Way) (i j : ℕ) (c d b : Captures)
    → Agree P c b → Derives s t w i j c d → (e : Captures) × Derives s t w i j b e × Agree Q d e
live_same s t P Q reads w i j c d b same h =
    let one = alike s P t reads.refers w i j c d b same h in (
      one.0,
      one.1,
      λ n read. elim (reads.stays n read) [
        | inl handed ↦ one.2 n handed
        | inr sure ↦ same_behind s t n w i j c d b one.0 h one.1 (inr sure)
      ],
    )
