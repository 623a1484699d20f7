-- What an expression tells of newlines: where no set and no plain text of it has one, no match holds one.
-- By induction on the tree, with companions for parts and members in a row; a newline in a match of several stands in
-- one of them. None is hard.
use Rattle.std.proofs.Common.{◌≡◌, ℕ, ◌+◌, ◌-◌, ◌<◌, ◌≤◌, ◌==◌, ◌↔◌, Bool, true, false, IsTrue, Some, List, zero, suc, length, drop, sym, ap, ◌∙◌, subst, inl, inr, arith, slice_index, eq-eqb, eqb-true, true≢false}
use Rattle.std.proofs.lemmas.Bool.{cases_lt, or_parts}
use Rattle.std.proofs.lemmas.Bool.Decides.{same_from_decides}
use Rattle.std.proofs.lemmas.List.{get_or-take, get_or-drop}
use Rattle.std.proofs.lemmas.List.Folds.{list_any_at, Any-from_list_any}
use Rattle.std.specs.List.{Contains, list_any}
use Rattle.std.proofs.lemmas.Option.{none-some}
use Rattle.ere_tree.specs.Captures.{Captures}
use Rattle.ere_tree.specs.Derivation.{Way, Ways, leaf, parts, members, chosen, inside, done, next, Derives, DerivesAll, DerivesEach, part, tree_at}
use Rattle.ere_tree.specs.Tree.{Tree, Trees, empty, plain, set, line_start, line_end, cat, alt, repeat, group, back, none, then}
use Rattle.ere_tree.proofs.CapturesLemmas.{some_same}
use Rattle.ere_tree.proofs.DerivationLemmas.{length-part}
use Rattle.ere_match.specs.Begins.{HasNewline, may_hold_newline, any_may_hold_newline}

-- a byte of a list that is a newline
listed : (xs : List ℕ) → list_any (λ b. b == 10) xs ≡ true → Contains xs 10
listed xs h =
    let (k, x, low, at, is) = Any-from_list_any (λ b. b == 10) xs h in
    subst (Contains xs) (eqb-true x 10 is) (k, low, at)

unlisted : (xs : List ℕ) (k : ℕ) → list_any (λ b. b == 10) xs ≡ false → k < length xs → slice_index xs k ≡ 10 → ⊥
unlisted xs k h l is = true≢false (sym (list_any_at (λ b. b == 10) xs k 0 l (eq-eqb (slice_index xs k) 10 is)) ∙ h)

-- the test of a set is that of its bytes
pub set_tells : (has : Bool) (xs : List ℕ) → (IsTrue has ↔ Contains xs 10) → has ≡ list_any (λ b. b == 10) xs
set_tells has xs tells =
    same_from_decides {P = Contains xs 10} has (list_any (λ b. b == 10) xs) tells
    (listed xs, λ c. list_any_at (λ b. b == 10) xs c.0 10 c.1 (eq-eqb _ 10 c.2))

one_of : (ts : Trees) (n : ℕ) (one : Tree) → tree_at ts n ≡ Some one → any_may_hold_newline ts ≡ false
    → may_hold_newline one ≡ false
one_of none n one is h = absurd (none-some one is)
one_of (then t ts) zero one is h =
    ap may_hold_newline (sym (some_same t one is)) ∙ (or_parts (may_hold_newline t) (any_may_hold_newline ts) h).0
one_of (then t ts) (suc n) one is h =
    one_of ts n one is (or_parts (may_hold_newline t) (any_may_hold_newline ts) h).1

-- a newline of [i, j) stands before k or behind
pub split : (s : List ℕ) (i k j : ℕ) → (HasNewline s i k → ⊥) → (HasNewline s k j → ⊥) → HasNewline s i j → ⊥
split s i k j before behind n = elim (cases_lt n.at k) [
  | inl low ↦ before (record { at = n.at; from = n.from; before = low; is = n.is })
  | inr high ↦ behind (record { at = n.at; from = high; before = n.before; is = n.is })
]

mutual
  pub holds_none : (s : List ℕ) (t : Tree) (w : Way) (i j : ℕ) (c d : Captures) → may_hold_newline t ≡ false
      → Derives s t w i j c d → HasNewline s i j → ⊥
  holds_none s empty leaf i j c d h g n = omega (arith, n.from, n.before, g.0)
  holds_none s (plain bytes) leaf i j c d h g n =
      let size = length-part s i j g.0.0 g.0.1 in
      let at : slice_index (part s i j) (n.at - i) ≡ 10 =
      get_or-take (j - i) (drop i s) (n.at - i) 0 (omega (arith, n.from, n.before)) ∙ get_or-drop i s (n.at - i) 0
      ∙ ap (slice_index s) (back_to i n.at n.from) ∙ n.is in
      unlisted bytes (n.at - i) h (omega (arith, n.from, n.before, size, ap length g.1))
      (ap (λ xs. slice_index xs (n.at - i)) (sym g.1) ∙ at)
    where
      back_to : (i at : ℕ) → i ≤ at → i + (at - i) ≡ at
      back_to i at l = omega (arith, l)
  holds_none s (set bytes) leaf i j c d h g n =
      let here : n.at ≡ i = omega (arith, n.from, n.before, g.0) in
      let is : slice_index s i ≡ 10 = ap (slice_index s) (sym here) ∙ n.is in
      let has = subst (Contains bytes) is g.2 in
      true≢false (sym (list_any_at (λ b. b == 10) bytes has.0 10 has.1 (eq-eqb _ 10 has.2)) ∙ h)
  holds_none s line_start leaf i j c d h g n = omega (arith, n.from, n.before, g.0)
  holds_none s line_end leaf i j c d h g n = omega (arith, n.from, n.before, g.0)
  holds_none s (cat all) (parts ws) i j c d h g n = all_hold_none s all ws i j c d h g n
  holds_none s (alt all) (chosen m w) i j c d h g n =
      holds_none s g.0 w i j c d (one_of all m g.0 g.1 h) g.2 n
  holds_none s (repeat inner least most) (members ws) i j c d h g n = each_holds_none s inner least ws i j c d h g.1 n
  holds_none s (group number inner) (inside w) i j c d h g n = holds_none s inner w i j c g.0 h g.1 n
  holds_none s (back number fold) leaf i j c d h g n = true≢false h
  holds_none s t w i j c d h g n = absurd g

  all_hold_none : (s : List ℕ) (ts : Trees) (ws : Ways) (i j : ℕ) (c d : Captures) → any_may_hold_newline ts ≡ false
      → DerivesAll s ts ws i j c d → HasNewline s i j → ⊥
  all_hold_none s none done i j c d h g n = omega (arith, n.from, n.before, g.0)
  all_hold_none s (then t ts) (next k w ws) i j c d h g n =
      let both = or_parts (may_hold_newline t) (any_may_hold_newline ts) h in
      split s i k j (holds_none s t w i k c g.0 both.0 g.1) (all_hold_none s ts ws k j g.0 d both.1 g.2) n
  all_hold_none s ts ws i j c d h g n = absurd g

  each_holds_none : (s : List ℕ) (t : Tree) (least : ℕ) (ws : Ways) (i j : ℕ) (c d : Captures)
      → may_hold_newline t ≡ false → DerivesEach s t least ws i j c d → HasNewline s i j → ⊥
  each_holds_none s t least done i j c d h g n = omega (arith, n.from, n.before, g.0)
  each_holds_none s t zero (next k w ws) i j c d h g n =
      split s i k j (holds_none s t w i k c g.0 h g.1) (each_holds_none s t zero ws k j g.0 d h g.3) n
  each_holds_none s t (suc least) (next k w ws) i j c d h g n =
      split s i k j (holds_none s t w i k c g.0 h g.1) (each_holds_none s t least ws k j g.0 d h g.2) n
