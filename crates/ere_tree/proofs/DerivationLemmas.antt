-- What holds of every derivation: what it spans and what its groups hold lies in the slice, and its way tells its
-- end and its captures. By induction on the tree, each with its two companions for parts and members in a row; none
-- is hard.
use Rattle.std.proofs.Common.{◌≡◌, ℕ, ◌+◌, Bool, true, false, IsTrue, List, ◌-◌, ◌≤◌, zero, suc, length, drop, slice_index, sym, ap, ◌∙◌, subst, inl, inr, arith, length-drop}
use Rattle.std.proofs.lemmas.Bool.{cases_lt}
use Rattle.std.proofs.lemmas.Bool.Decides.{nat_tests}
use Rattle.std.proofs.lemmas.List.{get_or_past}
use Rattle.std.proofs.lemmas.List.{length-take-le, length-map}
use Rattle.std.specs.Char.{to_ascii_lowercase}
use Rattle.std.specs.FinMap.{insert}
use Rattle.ere_tree.specs.Tree.{Tree, Trees, empty, plain, set, line_start, line_end, cat, alt, repeat, group, back, none, then}
use Rattle.ere_tree.specs.Captures.{Captures}
use Rattle.ere_tree.proofs.CapturesLemmas.{LieIn, insert_lies_in, some_same}
use Rattle.ere_tree.specs.Derivation.{Way, Ways, leaf, parts, members, chosen, inside, done, next, Derives, DerivesAll, DerivesEach, part, IsPart, IsSameText, is_line_start, is_line_end, count_of}

-- a place at a line's start or end lies in the slice
pub line_start_within : (s : List ℕ) (i : ℕ) → IsTrue (is_line_start s i) → i ≤ length s
line_start_within s i h = elim (cases_lt (length s) i) [
  | inl past ↦
      let none : slice_index s (i - 1) ≡ 0 = get_or_past s (i - 1) 0 (omega arith) in
      let here = rw none at h in grind (arith, nat_tests)
  | inr within ↦ within
]

pub line_end_within : (s : List ℕ) (i : ℕ) → IsTrue (is_line_end s i) → i ≤ length s
line_end_within s i h = elim (cases_lt (length s) i) [
  | inl past ↦
      let none : slice_index s i ≡ 0 = get_or_past s i 0 (omega arith) in
      let here = rw none at h in grind (arith, nat_tests)
  | inr within ↦ within
]

-- what is spanned lies in the slice
mutual
  pub is_part : (s : List ℕ) (t : Tree) (w : Way) (i j : ℕ) (c d : Captures) → Derives s t w i j c d → IsPart s i j
  is_part s empty leaf i j c d h = (omega arith, omega arith)
  is_part s (plain bytes) leaf i j c d h = h.0
  is_part s (set bytes) leaf i j c d h = (omega arith, omega arith)
  is_part s line_start leaf i j c d h = (omega arith, omega (arith, line_start_within s i h.1))
  is_part s line_end leaf i j c d h = (omega arith, omega (arith, line_end_within s i h.1))
  is_part s (cat all) (parts ws) i j c d h = all_are_part s all ws i j c d h
  is_part s (alt all) (chosen n w) i j c d h = is_part s h.0 w i j c d h.2
  is_part s (repeat inner least most) (members ws) i j c d h = each_is_part s inner least ws i j c d h.1
  is_part s (group number inner) (inside w) i j c d h = is_part s inner w i j c h.0 h.1
  is_part s (back number fold) leaf i j c d h = h.2
  is_part s t w i j c d h = absurd h

  pub all_are_part : (s : List ℕ) (ts : Trees) (ws : Ways) (i j : ℕ) (c d : Captures) → DerivesAll s ts ws i j c d
      → IsPart s i j
  all_are_part s none done i j c d h = (omega arith, omega arith)
  all_are_part s (then t ts) (next k w ws) i j c d h =
      let first = is_part s t w i k c h.0 h.1 in
      let rest = all_are_part s ts ws k j h.0 d h.2 in
      (omega (arith, first.0, rest.0), rest.1)
  all_are_part s ts ws i j c d h = absurd h

  pub each_is_part : (s : List ℕ) (t : Tree) (least : ℕ) (ws : Ways) (i j : ℕ) (c d : Captures)
      → DerivesEach s t least ws i j c d → IsPart s i j
  each_is_part s t least done i j c d h = (omega arith, omega arith)
  each_is_part s t zero (next k w ws) i j c d h =
      let rest = each_is_part s t zero ws k j h.0 d h.3 in
      (omega (arith, h.2, rest.0), rest.1)
  each_is_part s t (suc least) (next k w ws) i j c d h =
      let first = is_part s t w i k c h.0 h.1 in
      let rest = each_is_part s t least ws k j h.0 d h.2 in
      (omega (arith, first.0, rest.0), rest.1)

-- where all groups hold parts of the slice, they do so behind a derivation
mutual
  pub captures_lie_in : (s : List ℕ) (t : Tree) (w : Way) (i j : ℕ) (c d : Captures) → LieIn s c → Derives s t w i j c d
      → LieIn s d
  captures_lie_in s empty leaf i j c d l h = subst (LieIn s) (sym h.2) l
  captures_lie_in s (plain bytes) leaf i j c d l h = subst (LieIn s) (sym h.2) l
  captures_lie_in s (set bytes) leaf i j c d l h = subst (LieIn s) (sym h.3) l
  captures_lie_in s line_start leaf i j c d l h = subst (LieIn s) (sym h.2) l
  captures_lie_in s line_end leaf i j c d l h = subst (LieIn s) (sym h.2) l
  captures_lie_in s (cat all) (parts ws) i j c d l h = all_captures_lie_in s all ws i j c d l h
  captures_lie_in s (alt all) (chosen n w) i j c d l h = captures_lie_in s h.0 w i j c d l h.2
  captures_lie_in s (repeat inner least most) (members ws) i j c d l h =
      each_captures_lie_in s inner least ws i j c d l h.1
  captures_lie_in s (group number inner) (inside w) i j c d l h =
      subst (LieIn s) (sym h.2) (insert_lies_in s h.0 number i j (captures_lie_in s inner w i j c h.0 l h.1)
      (is_part s inner w i j c h.0 h.1))
  captures_lie_in s (back number fold) leaf i j c d l h = subst (LieIn s) (sym h.4) l
  captures_lie_in s t w i j c d l h = absurd h

  all_captures_lie_in : (s : List ℕ) (ts : Trees) (ws : Ways) (i j : ℕ) (c d : Captures) → LieIn s c
      → DerivesAll s ts ws i j c d → LieIn s d
  all_captures_lie_in s none done i j c d l h = subst (LieIn s) (sym h.2) l
  all_captures_lie_in s (then t ts) (next k w ws) i j c d l h =
      all_captures_lie_in s ts ws k j h.0 d (captures_lie_in s t w i k c h.0 l h.1) h.2
  all_captures_lie_in s ts ws i j c d l h = absurd h

  each_captures_lie_in : (s : List ℕ) (t : Tree) (least : ℕ) (ws : Ways) (i j : ℕ) (c d : Captures) → LieIn s c
      → DerivesEach s t least ws i j c d → LieIn s d
  each_captures_lie_in s t least done i j c d l h = subst (LieIn s) (sym h.2) l
  each_captures_lie_in s t zero (next k w ws) i j c d l h =
      each_captures_lie_in s t zero ws k j h.0 d (captures_lie_in s t w i k c h.0 l h.1) h.3
  each_captures_lie_in s t (suc least) (next k w ws) i j c d l h =
      each_captures_lie_in s t least ws k j h.0 d (captures_lie_in s t w i k c h.0 l h.1) h.2

-- members behind the first `least` take a byte each
pub each_count : (s : List ℕ) (t : Tree) (least : ℕ) (ws : Ways) (i j : ℕ) (c d : Captures)
    → DerivesEach s t least ws i j c d → count_of ws ≤ least + (j - i)
each_count s t least done i j c d h = omega arith
each_count s t zero (next k w ws) i j c d h =
    omega (arith, each_count s t zero ws k j h.0 d h.3, (each_is_part s t zero ws k j h.0 d h.3).0)
each_count s t (suc least) (next k w ws) i j c d h =
    let rest = each_is_part s t least ws k j h.0 d h.2 in
    omega (arith, each_count s t least ws k j h.0 d h.2, (is_part s t w i k c h.0 h.1).0, rest.0)

-- a part of the slice is as long as its ends are apart
pub length-part : (s : List ℕ) (i j : ℕ) → i ≤ j → j ≤ length s → length (part s i j) ≡ j - i
length-part s i j a b = length-take-le (j - i) (drop i s) (omega (arith, length-drop i s))

-- texts that are one are equally long
pub same_length : (fold : Bool) (xs ys : List ℕ) → IsSameText fold xs ys → length xs ≡ length ys
same_length false xs ys e = ap length e
same_length true xs ys e = sym (length-map xs to_ascii_lowercase) ∙ ap length e ∙ length-map ys to_ascii_lowercase

-- one way, from one start with the same captures, has one end and leaves the same captures
mutual
  pub one_end : (s : List ℕ) (t : Tree) (w : Way) (i j k : ℕ) (c d e : Captures)
      → Derives s t w i j c d → Derives s t w i k c e → (j ≡ k) × (d ≡ e)
  one_end s empty leaf i j k c d e h g = (h.0 ∙ sym g.0, h.2 ∙ sym g.2)
  one_end s (plain bytes) leaf i j k c d e h g = (
    omega (arith, length-part s i j h.0.0 h.0.1, length-part s i k g.0.0 g.0.1, ap length (h.1 ∙ sym g.1)),
    h.2
        ∙ sym g.2,
  )
  one_end s (set bytes) leaf i j k c d e h g = (h.0 ∙ sym g.0, h.3 ∙ sym g.3)
  one_end s line_start leaf i j k c d e h g = (h.0 ∙ sym g.0, h.2 ∙ sym g.2)
  one_end s line_end leaf i j k c d e h g = (h.0 ∙ sym g.0, h.2 ∙ sym g.2)
  one_end s (cat all) (parts ws) i j k c d e h g = all_one_end s all ws i j k c d e h g
  one_end s (alt all) (chosen n w) i j k c d e h g =
      let same : h.0 ≡ g.0 = some_same h.0 g.0 (sym h.1 ∙ g.1) in
      one_end s g.0 w i j k c d e (subst (λ one. Derives s one w i j c d) same h.2) g.2
  one_end s (repeat inner least most) (members ws) i j k c d e h g = each_one_end s inner least ws i j k c d e h.1 g.1
  one_end s (group number inner) (inside w) i j k c d e h g =
      let both = one_end s inner w i j k c h.0 g.0 h.1 g.1 in
      (both.0, h.2 ∙ ap (λ x. insert x number (i, j)) both.1 ∙ ap (λ n. insert g.0 number (i, n)) both.0 ∙ sym g.2)
  one_end s (back number fold) leaf i j k c d e h g =
      let same : h.0 ≡ g.0 = some_same h.0 g.0 (sym h.1 ∙ g.1) in
      let long = same_length fold _ _ h.3 ∙ ap (λ p. length (part s p.0 p.1)) same ∙ sym (same_length fold _ _ g.3) in
      (omega (arith, length-part s i j h.2.0 h.2.1, length-part s i k g.2.0 g.2.1, long), h.4 ∙ sym g.4)
  one_end s t w i j k c d e h g = absurd h

  pub all_one_end : (s : List ℕ) (ts : Trees) (ws : Ways) (i j k : ℕ) (c d e : Captures)
      → DerivesAll s ts ws i j c d → DerivesAll s ts ws i k c e → (j ≡ k) × (d ≡ e)
  all_one_end s none done i j k c d e h g = (h.0 ∙ sym g.0, h.2 ∙ sym g.2)
  all_one_end s (then t ts) (next m w ws) i j k c d e h g =
      let both = one_end s t w i m m c h.0 g.0 h.1 g.1 in
      all_one_end s ts ws m j k g.0 d e (subst (λ x. DerivesAll s ts ws m j x d) both.1 h.2) g.2
  all_one_end s ts ws i j k c d e h g = absurd h

  pub each_one_end : (s : List ℕ) (t : Tree) (least : ℕ) (ws : Ways) (i j k : ℕ) (c d e : Captures)
      → DerivesEach s t least ws i j c d → DerivesEach s t least ws i k c e → (j ≡ k) × (d ≡ e)
  each_one_end s t least done i j k c d e h g = (h.0 ∙ sym g.0, h.2 ∙ sym g.2)
  each_one_end s t zero (next m w ws) i j k c d e h g =
      let both = one_end s t w i m m c h.0 g.0 h.1 g.1 in
      each_one_end s t zero ws m j k g.0 d e (subst (λ x. DerivesEach s t zero ws m j x d) both.1 h.3) g.3
  each_one_end s t (suc least) (next m w ws) i j k c d e h g =
      let both = one_end s t w i m m c h.0 g.0 h.1 g.1 in
      each_one_end s t least ws m j k g.0 d e (subst (λ x. DerivesEach s t least ws m j x d) both.1 h.2) g.2
