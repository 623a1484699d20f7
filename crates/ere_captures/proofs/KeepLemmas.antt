-- Captures that a derivation leaves as they are, and the list of what groups hold where one group is set.
-- By induction on the tree: only groups of the tree are set, and their numbers are at most its greatest one.
-- The hard one is `keeps`, over all forms of a tree at once.
use Rattle.std.proofs.Common.{◌≡◌, ◌≢◌, ℕ, zero, suc, ◌+◌, ◌-◌, ◌<◌, ◌≤◌, cond, Option, Some, None, List, get_or, refl, sym, ap, ◌∙◌, inl, inr, arith, eq-eqb}
use Rattle.std.specs.Option.{option_map}
use Rattle.std.specs.Cmp.{nat_cmp_total, unsigned_tied}
use Rattle.std.specs.FinMap.{get, insert, get-insert}
use Rattle.std.specs.Prelude.{slice_set}
use Rattle.std.proofs.lemmas.Bool.{cases_eq, ne_eqb}
use Rattle.std.proofs.lemmas.List.{get_or-set_same, get_or-set_other, length-set, ext_get_or}
use Rattle.std.proofs.lemmas.List.FromFn.{get_or-map-range_with_len}
use Rattle.std.proofs.lemmas.Option.{none-some}
use Rattle.ere_tree.specs.Captures.{Captures, cap_of, caps_of}
use Rattle.ere_tree.specs.Derivation.{Way, Ways, leaf, parts, members, chosen, inside, done, next, Derives, DerivesAll, DerivesEach, tree_at}
use Rattle.ere_tree.specs.Shape.{greatest_group, greatest_group_of}
use Rattle.ere_tree.specs.Tree.{Tree, Trees, empty, plain, set, line_start, line_end, cat, alt, repeat, group, back, none, then}
use Rattle.ere_tree.specs.declared.hit.Cap.{Cap}
use Rattle.ere_tree.proofs.CapturesLemmas.{some_same, length-caps_of}

-- a group that is set, and another one
pub get_set : (c : Captures) (n : ℕ) (p : ℕ × ℕ) → get (insert c n p) n ≡ Some p
get_set c n p =
    get-insert nat_cmp_total c n p n ∙ ap (λ b. cond b (Some p) (get c n)) (unsigned_tied n n ∙ eq-eqb n n refl)

pub get_other : (c : Captures) (n : ℕ) (p : ℕ × ℕ) (m : ℕ) → m ≢ n → get (insert c n p) m ≡ get c m
get_other c n p m other =
    get-insert nat_cmp_total c n p m
    ∙ ap (λ b. cond b (Some p) (get c m)) (unsigned_tied m n ∙ ne_eqb m n other)

at_group : (ts : Trees) (n : ℕ) (t : Tree) → tree_at ts n ≡ Some t → greatest_group t ≤ greatest_group_of ts
at_group none n t at = absurd (none-some t at)
at_group (then u ts) zero t at =
    let same : greatest_group u ≡ greatest_group t = ap greatest_group (some_same u t at) in omega arith
at_group (then u ts) (suc n) t at = omega (arith, at_group ts n t at)

mutual
  pub keeps : (s : List ℕ) (t : Tree) (w : Way) (i j : ℕ) (c d : Captures) → Derives s t w i j c d → (n : ℕ)
      → greatest_group t < n → get d n ≡ get c n
  keeps s empty leaf i j c d h n low = ap (λ x. get x n) h.2
  keeps s (plain bytes) leaf i j c d h n low = ap (λ x. get x n) h.2
  keeps s (set bytes) leaf i j c d h n low = ap (λ x. get x n) h.3
  keeps s line_start leaf i j c d h n low = ap (λ x. get x n) h.2
  keeps s line_end leaf i j c d h n low = ap (λ x. get x n) h.2
  keeps s (cat all) (parts ws) i j c d h n low = all_keep s all ws i j c d h n low
  keeps s (alt all) (chosen k w) i j c d h n low =
      keeps s h.0 w i j c d h.2 n (omega (arith, at_group all k h.0 h.1))
  keeps s (repeat inner least most) (members ws) i j c d h n low = each_keeps s inner least ws i j c d h.1 n low
  keeps s (group number inner) (inside w) i j c d h n low =
      let other : n ≢ number = λ e. absurd (omega (arith, e)) in
      ap (λ x. get x n) h.2 ∙ get_other h.0 number (i, j) n other
      ∙ keeps s inner w i j c h.0 h.1 n (omega arith)
  keeps s (back number fold) leaf i j c d h n low = ap (λ x. get x n) h.4
  keeps s t w i j c d h n low = absurd h

  all_keep : (s : List ℕ) (ts : Trees) (ws : Ways) (i j : ℕ) (c d : Captures) → DerivesAll s ts ws i j c d → (n : ℕ)
      → greatest_group_of ts < n → get d n ≡ get c n
  all_keep s none done i j c d h n low = ap (λ x. get x n) h.2
  all_keep s (then t ts) (next k w ws) i j c d h n low =
      all_keep s ts ws k j h.0 d h.2 n (omega arith) ∙ keeps s t w i k c h.0 h.1 n (omega arith)
  all_keep s ts ws i j c d h n low = absurd h

  each_keeps : (s : List ℕ) (t : Tree) (least : ℕ) (ws : Ways) (i j : ℕ) (c d : Captures)
      → DerivesEach s t least ws i j c d → (n : ℕ) → greatest_group t < n → get d n ≡ get c n
  each_keeps s t least done i j c d h n low = ap (λ x. get x n) h.2
  each_keeps s t zero (next k w ws) i j c d h n low =
      each_keeps s t zero ws k j h.0 d h.3 n low ∙ keeps s t w i k c h.0 h.1 n low
  each_keeps s t (suc least) (next k w ws) i j c d h n low =
      each_keeps s t least ws k j h.0 d h.2 n low ∙ keeps s t w i k c h.0 h.1 n low

-- what a list of captures has at an index
at_caps : (start : ℕ) (c : Captures) (count k : ℕ) (x : Option Cap) → k < count
    → get_or (caps_of start c count) k x ≡ cap_of start c (k + 1)
at_caps start c count k x low = get_or-map-range_with_len (cap_of start c) 1 count k (k + 1) x low (omega arith)

cap_along : (start : ℕ) (c d : Captures) (n : ℕ) → get c n ≡ get d n → cap_of start c n ≡ cap_of start d n
cap_along start c d n same =
    ap (λ o. option_map (λ (part : ℕ × ℕ). told start part) o) same
  where
    told : ℕ → ℕ × ℕ → Cap
    told start part = record { from = start + part.0; to = start + part.1 }

-- captures that agree on groups from 1 on are one list
pub caps_agree : (start : ℕ) (c d : Captures) (count : ℕ) → ((n : ℕ) → 0 < n → get c n ≡ get d n)
    → caps_of start c count ≡ caps_of start d count
caps_agree start c d count same =
    ext_get_or None (caps_of start c count) (caps_of start d count)
    (length-caps_of start c count ∙ sym (length-caps_of start d count))
    (λ k low. let here : k < count = omega (arith, low, length-caps_of start c count) in
    at_caps start c count k None here ∙ cap_along start c d (k + 1) (same (k + 1) (omega arith))
    ∙ sym (at_caps start d count k None here))

-- a group that is set changes its place in the list
pub caps_set : (start : ℕ) (d : Captures) (count number from to : ℕ) → 0 < number → number ≤ count
    → slice_set (caps_of start d count) (number - 1) (Some (record { from = start + from; to = start + to }))
    ≡ caps_of start (insert d number (from, to)) count
caps_set start d count number from to some fits =
    let old = caps_of start d count in
    let cap : Cap = record { from = start + from; to = start + to } in
    let new = insert d number (from, to) in
    let long = length-caps_of start d count in
    let size = length-set old (number - 1) (Some cap) in
    ext_get_or None (slice_set old (number - 1) (Some cap)) (caps_of start new count)
    (size ∙ long ∙ sym (length-caps_of start new count))
    (λ k low. let here : k < count = omega (arith, low, size, long) in
    elim (cases_eq k (number - 1)) [
      | inl same ↦
          let at : k + 1 ≡ number = omega (arith, same, some) in
          ap (λ n. get_or (slice_set old (number - 1) (Some cap)) n None) same
          ∙ get_or-set_same old (number - 1) (Some cap) None (omega (arith, long, same, here))
          ∙ sym (at_caps start new count k None here
          ∙ ap (λ o. option_map
          (λ (part : ℕ × ℕ). let r : Cap = record { from = start + part.0; to = start + part.1 } in r) o)
          (ap (get new) at ∙ get_set d number (from, to)))
      | inr other ↦
          let differs : k + 1 ≢ number = λ e. other (omega (arith, e)) in
          get_or-set_other old (number - 1) k (Some cap) None other
          ∙ at_caps start d count k None here
          ∙ sym (at_caps start new count k None here
          ∙ cap_along start new d (k + 1) (get_other d number (from, to) (k + 1) differs))
    ])
