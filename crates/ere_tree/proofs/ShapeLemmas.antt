-- Sizes that stop at a greatest number, and lists of trees whose numbers are raised.
use Rattle.std.proofs.Common.{◌≡◌, ℕ, zero, suc, ◌*◌, ◌≤◌, min, inl, inr, List, [], ◌∷◌, ◌++◌, length, take, drop, map, ap, sym, refl, arith}
use Rattle.std.proofs.Math.Nat.{suc-mul, mul-le-mul_left}
use Rattle.ere_tree.specs.Shape.{shifted, all_shifted}
use Rattle.ere_tree.specs.View.{view}
use Rattle.ere_tree.specs.declared.ere.Ere.{Ere}
use Rattle.ere_tree.specs.Tree.{Tree, then, trees_of}
use Rattle.std.proofs.Math.Seq.{take-append_seam}
use Rattle.std.proofs.lemmas.List.{take_all, drop_all, append-nil}
use Rattle.std.proofs.lemmas.Bool.Decides.{leb_tells}

-- a factor that stopped at m counts no less, once the product stops there too
pub stopped_product : (k s m : ℕ) → min (k * min s m) m ≡ min (k * s) m
stopped_product zero s m = omega arith
stopped_product (suc j) s m = elim (leb_tells s m) [
  | inl (_, low) ↦ let same : min s m ≡ s = omega arith in rw same refl
  | inr (_, high) ↦
      let same : min s m ≡ m = omega arith in
      let above : m ≤ s = omega arith in
      rw same (omega (arith, suc-mul j m, mul-le-mul_left (suc j) above))
]

-- a list of trees, each with its numbers raised
pub all_shifted_map : (by : ℕ) (ts : List Tree) → all_shifted by (trees_of ts) ≡ trees_of (map (shifted by) ts)
all_shifted_map by [] = refl
all_shifted_map by (t ∷ ts) = ap (λ rest. then (shifted by t) rest) (all_shifted_map by ts)

-- a list whose numbers are raised up to its end
pub shifted_whole : (by n i : ℕ) (xs ys : List Ere) → length xs ≡ n → length xs ≤ i →
    map view (take i xs) ++ map (shifted by) (map view (drop i xs)) ≡ map (shifted by) (map view ys) →
    trees_of (map view (take n (xs ++ drop (length xs) ys))) ≡ all_shifted by (trees_of (map view ys))
shifted_whole by n i xs ys same past whole =
    let kept : take n (xs ++ drop (length xs) ys) ≡ xs = rw (← same) (take-append_seam xs (drop (length xs) ys)) in
    let done : map view xs ≡ map (shifted by) (map view ys) =
    rw (take_all i xs past, drop_all i xs past, append-nil) at whole in
    rw (kept, done) (sym (all_shifted_map by (map view ys)))
