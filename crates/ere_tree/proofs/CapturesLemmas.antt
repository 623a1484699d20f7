-- Captures: the list of what groups hold, and captures that lie in the slice.
use Rattle.std.proofs.Common.{◌≡◌, ℕ, ◌+◌, Bool, true, false, cond, Some, List, [], ◌∷◌, ◌++◌, length, sym, ap, ◌∙◌, subst, arith}
use Rattle.std.proofs.lemmas.Option.{none-some}
use Rattle.std.proofs.lemmas.List.FromFn.{length-map-range_with_len, map-range_with_len_more}
use Rattle.std.specs.Cmp.{nat_cmp_total}
use Rattle.std.specs.Option.{unwrap_or}
use Rattle.std.specs.Ordering.{nat_cmp, eq_by_cmp}
use Rattle.std.specs.FinMap.{empty, insert, get, get-empty, get-insert}
use Rattle.ere_tree.specs.Captures.{Captures, cap_of, caps_of}
use Rattle.ere_tree.specs.Derivation.{IsPart}

-- one group more
pub caps_of-more : (start : ℕ) (c : Captures) (n : ℕ) →
    caps_of start c (n + 1) ≡ caps_of start c n ++ cap_of start c (n + 1) ∷ []
caps_of-more start c n = map-range_with_len_more (cap_of start c) 1 n (n + 1) (omega arith)

pub length-caps_of : (start : ℕ) (c : Captures) (n : ℕ) → length (caps_of start c n) ≡ n
length-caps_of start c n = length-map-range_with_len (cap_of start c) 1 n

-- two values that are there are the same
pub some_same : {A : Type 0} (x y : A) → Some x ≡ Some y → x ≡ y
some_same x y e = ap (λ o. unwrap_or o x) e

-- each group of these holds a part of the slice
abbrev pub LieIn : List ℕ → Captures → Type 0
LieIn s c = (n : ℕ) (p : ℕ × ℕ) → get c n ≡ Some p → IsPart s p.0 p.1

pub empty_lies_in : (s : List ℕ) → LieIn s empty
empty_lies_in s n p e = absurd (none-some p (sym (get-empty nat_cmp n) ∙ e))

pub insert_lies_in : (s : List ℕ) (c : Captures) (number i j : ℕ) → LieIn s c → IsPart s i j
    → LieIn s (insert c number (i, j))
insert_lies_in s c number i j known here n p e =
    each (eq_by_cmp nat_cmp n number) (sym (get-insert nat_cmp_total c number (i, j) n) ∙ e)
  where
    each : (v : Bool) → cond v (Some (i, j)) (get c n) ≡ Some p → IsPart s p.0 p.1
    each true e = subst (λ (q : ℕ × ℕ). IsPart s q.0 q.1) (some_same (i, j) p e) here
    each false e = known n p e
