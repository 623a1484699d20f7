-- Without references captures don't matter: whatever groups hold before, the same way derives the same part.
-- By induction on the tree; what changes is the captures that are handed on.
-- The hard one is `each_free`, all shapes of a tree at once.
use Rattle.std.proofs.Common.{◌≡◌, ℕ, Bool, true, false, ◌||◌, Some, zero, suc, List, refl, sym, subst, true≢false}
use Rattle.std.specs.FinMap.{insert}
use Rattle.std.proofs.lemmas.Option.{none-some}
use Rattle.ere_tree.specs.Tree.{Tree, Trees, empty, plain, set, line_start, line_end, cat, alt, repeat, group, back, none, then}
use Rattle.ere_tree.specs.Captures.{Captures}
use Rattle.ere_tree.specs.Derivation.{Way, Ways, leaf, parts, members, chosen, inside, done, next, Derives, DerivesAll, DerivesEach, tree_at}
use Rattle.ere_tree.specs.Shape.{has_refs, any_has_refs}
use Rattle.ere_tree.proofs.CapturesLemmas.{some_same}

pub no_left : (a b : Bool) → (a || b) ≡ false → a ≡ false
no_left false b e = refl
no_left true b e = e

pub no_right : (a b : Bool) → (a || b) ≡ false → b ≡ false
no_right false b e = e
no_right true b e = absurd (true≢false e)

-- its ways don't hang on the captures
abbrev pub IsFree : List ℕ → Tree → Type 0
IsFree s t = (w : Way) (i j : ℕ) (c d b : Captures) → Derives s t w i j c d → (e : Captures) × Derives s t w i j b e

pub each_free : (s : List ℕ) (t : Tree) → IsFree s t → (least : ℕ) (ws : Ways) (i j : ℕ) (c d b : Captures)
    → DerivesEach s t least ws i j c d → (e : Captures) × DerivesEach s t least ws i j b e
each_free s t f least done i j c d b h = (b, (h.0, h.1, refl))
each_free s t f zero (next k w ws) i j c d b h =
    let one = f w i k c h.0 b h.1 in
    let rest = each_free s t f zero ws k j h.0 d one.0 h.3 in
    (rest.0, (one.0, one.1, h.2, rest.1))
each_free s t f (suc least) (next k w ws) i j c d b h =
    let one = f w i k c h.0 b h.1 in
    let rest = each_free s t f least ws k j h.0 d one.0 h.2 in
    (rest.0, (one.0, one.1, rest.1))

mutual
  pub free : (s : List ℕ) (t : Tree) → has_refs t ≡ false → IsFree s t
  free s empty r leaf i j c d b h = (b, (h.0, h.1, refl))
  free s (plain bytes) r leaf i j c d b h = (b, (h.0, h.1, refl))
  free s (set bytes) r leaf i j c d b h = (b, (h.0, h.1, h.2, refl))
  free s line_start r leaf i j c d b h = (b, (h.0, h.1, refl))
  free s line_end r leaf i j c d b h = (b, (h.0, h.1, refl))
  free s (cat all) r (parts ws) i j c d b h = all_free s all r ws i j c d b h
  free s (alt all) r (chosen n w) i j c d b h =
      let one = one_free s all r n h.0 h.1 w i j c d b h.2 in
      (one.0, (h.0, h.1, one.1))
  free s (repeat inner least most) r (members ws) i j c d b h =
      let one = each_free s inner (free s inner r) least ws i j c d b h.1 in
      (one.0, (h.0, one.1))
  free s (group number inner) r (inside w) i j c d b h =
      let one = free s inner r w i j c h.0 b h.1 in
      (insert one.0 number (i, j), (one.0, one.1, refl))
  free s (back number fold) r w i j c d b h = absurd (true≢false r)
  free s t r w i j c d b h = absurd h

  pub all_free : (s : List ℕ) (ts : Trees) → any_has_refs ts ≡ false → (ws : Ways) (i j : ℕ) (c d b : Captures)
      → DerivesAll s ts ws i j c d → (e : Captures) × DerivesAll s ts ws i j b e
  all_free s none r done i j c d b h = (b, (h.0, h.1, refl))
  all_free s (then t ts) r (next k w ws) i j c d b h =
      let one = free s t (no_left _ _ r) w i k c h.0 b h.1 in
      let rest = all_free s ts (no_right _ _ r) ws k j h.0 d one.0 h.2 in
      (rest.0, (one.0, one.1, rest.1))
  all_free s ts r ws i j c d b h = absurd h

  pub one_free : (s : List ℕ) (ts : Trees) → any_has_refs ts ≡ false → (n : ℕ) (t : Tree) → tree_at ts n ≡ Some t
      → IsFree s t
  one_free s none r n t a w i j c d b h = absurd (none-some t a)
  one_free s (then u ts) r zero t a w i j c d b h =
      let same : u ≡ t = some_same u t a in
      let one = free s u (no_left _ _ r) w i j c d b (subst (λ x. Derives s x w i j c d) (sym same) h) in
      (one.0, subst (λ x. Derives s x w i j b one.0) same one.1)
  one_free s (then u ts) r (suc n) t a w i j c d b h = one_free s ts (no_right _ _ r) n t a w i j c d b h
