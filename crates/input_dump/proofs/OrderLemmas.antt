-- The marks in the order of their offsets.
-- Shown: a stable sort by a number gives the list that is filtered number by number. Idea: such a list of numbers that don't fall is itself
-- (`sorted_by`), and both lists have the same parts at each number. The hard one is `placed`, where an element goes in front.
use Rattle.std.proofs.Common.{◌≡◌, ℕ, zero, suc, ◌+◌, ◌<◌, ◌≤◌, ◌==◌, nat_lt, Bool, true, false, not, ◌&&◌, if◌then◌else◌, cond, List, [], ◌∷◌, ◌++◌, length, map, get_or, All, refl, sym, ap, ◌∙◌, subst, arith}
use Rattle.std.specs.List.{AllByRecursion, filter, flat_map, range_with_len}
use Rattle.std.specs.List.Sorted.{IsNonDecreasingBy, IsPermutation, IsStableByKey, ties}
use Rattle.std.specs.Ordering.{is_lt, nat_cmp}
use Rattle.std.specs.declared.cmp.Ordering.TheVariants.{Less, Equal, Greater}
use Rattle.std.proofs.lemmas.Bool.Decides.{nat_tests}
use Rattle.std.proofs.lemmas.List.{map-append}
use Rattle.std.proofs.lemmas.List.Elements.{All-from_recursion, recursion_from_All}
use Rattle.std.proofs.lemmas.List.Sorted.{All-permutation}
use denote.Ref.{Bor}
use Rattle.input_dump.specs.Dump.{by_offset}
use Rattle.input_dump.specs.Order.{AreAscending}
use Rattle.input_dump.specs.declared.marking.Mark.{Mark}

-- ---- tests

key_above : (k n : ℕ) → n < k → (k == n) ≡ false
key_above k n low = grind (arith, nat_tests, low)

key_below : (k n : ℕ) → k < n → (k == n) ≡ false
key_below k n low = grind (arith, nat_tests, low)

key_same : (k n : ℕ) → (k == n) ≡ true → k < n + 1
key_same k n is = grind (arith, nat_tests, is)

key_other : (k n : ℕ) → n ≤ k → (k == n) ≡ false → n + 1 ≤ k
key_other k n low is = grind (arith, nat_tests, low, is)

tie_tests : (n k : ℕ) → (not (nat_lt n k) && not (nat_lt k n)) ≡ (k == n)
tie_tests n k = grind (arith, nat_tests)

is_lt_by : (a b : Bool) → is_lt (cond a Less (cond b Equal Greater)) ≡ a
is_lt_by true b = refl
is_lt_by false true = refl
is_lt_by false false = refl

is_lt_is : (x y : ℕ) → is_lt (nat_cmp x y) ≡ nat_lt x y
is_lt_is x y = is_lt_by (nat_lt x y) (x == y)

tie_is : (n k : ℕ) → (not (is_lt (nat_cmp n k)) && not (is_lt (nat_cmp k n))) ≡ (k == n)
tie_is n k =
    ap (λ b. not b && not (is_lt (nat_cmp k n))) (is_lt_is n k) ∙ ap (λ b. not (nat_lt n k) && not b) (is_lt_is k n) ∙ tie_tests n k

-- ---- lists by a number of each element

module _ (X : Type 0) (key : X → ℕ) where
  abbrev at_key : ℕ → List X → List X
  at_key n xs = filter (λ x. key x == n) xs

  abbrev by_key : ℕ → ℕ → List X → List X
  by_key from count xs = flat_map (λ n. at_key n xs) (range_with_len from count)

  abbrev Ascends : List X → Type 0
  Ascends [] = Unit {0}
  Ascends (x ∷ xs) = AllByRecursion (λ y. key x ≤ key y) xs × Ascends xs

  none_at : (n m : ℕ) (xs : List X) → n < m → AllByRecursion (λ y. m ≤ key y) xs → at_key n xs ≡ []
  none_at n m [] low all = refl
  none_at n m (x ∷ xs) low all =
      ap (λ b. if b then x ∷ at_key n xs else at_key n xs) (key_above (key x) n (omega (arith, low, all.0)))
      ∙ none_at n m xs low all.1

  skip : (from count : ℕ) (x : X) (xs : List X) → key x < from → by_key from count (x ∷ xs) ≡ by_key from count xs
  skip from zero x xs low = refl
  skip from (suc count) x xs low =
      ap (λ b. (if b then x ∷ at_key from xs else at_key from xs) ++ by_key (from + 1) count (x ∷ xs)) (key_below (key x) from low)
      ∙ ap (λ l. at_key from xs ++ l) (skip (from + 1) count x xs (omega (arith, low)))

  placed_by : (from count : ℕ) (x : X) (xs : List X) → AllByRecursion (λ y. key x ≤ key y) xs → from ≤ key x
      → (from + 1 ≤ key x → by_key (from + 1) count (x ∷ xs) ≡ x ∷ by_key (from + 1) count xs)
      → (test : Bool) → (key x == from) ≡ test → by_key from (suc count) (x ∷ xs) ≡ x ∷ by_key from (suc count) xs
  placed_by from count x xs all low later true is =
      ap (λ b. (if b then x ∷ at_key from xs else at_key from xs) ++ by_key (from + 1) count (x ∷ xs)) is
      ∙ ap (λ l. (x ∷ at_key from xs) ++ l) (skip (from + 1) count x xs (key_same (key x) from is))
  placed_by from count x xs all low later false is =
      let above : from + 1 ≤ key x = key_other (key x) from low is in
      let none : at_key from xs ≡ [] = none_at from (key x) xs (omega (arith, above)) all in
      ap (λ b. (if b then x ∷ at_key from xs else at_key from xs) ++ by_key (from + 1) count (x ∷ xs)) is
      ∙ ap (λ l. at_key from xs ++ l) (later above)
      ∙ ap (λ l. l ++ (x ∷ by_key (from + 1) count xs)) none
      ∙ sym (ap (λ l. x ∷ (l ++ by_key (from + 1) count xs)) none)

  placed : (from count : ℕ) (x : X) (xs : List X) → AllByRecursion (λ y. key x ≤ key y) xs → from ≤ key x → key x < from + count
      → by_key from count (x ∷ xs) ≡ x ∷ by_key from count xs
  placed from zero x xs all low high = absurd (omega (arith, low, high))
  placed from (suc count) x xs all low high =
      placed_by from count x xs all low (λ above. placed (from + 1) count x xs all above (omega (arith, high))) (key x == from) refl

  none_by : (from count : ℕ) → by_key from count [] ≡ []
  none_by from zero = refl
  none_by from (suc count) = none_by (from + 1) count

  pub sorted_by : (count : ℕ) (xs : List X) → Ascends xs → AllByRecursion (λ x. key x < count) xs → by_key 0 count xs ≡ xs
  sorted_by count [] up within = none_by 0 count
  sorted_by count (x ∷ xs) up within =
      placed 0 count x xs up.0 (omega arith) (omega (arith, within.0)) ∙ ap (λ l. x ∷ l) (sorted_by count xs up.1 within.1)

  pub same_by : (from count : ℕ) (xs ys : List X) → ((n : ℕ) → at_key n ys ≡ at_key n xs) → by_key from count ys ≡ by_key from count xs
  same_by from zero xs ys same = refl
  same_by from (suc count) xs ys same =
      ap (λ l. l ++ by_key (from + 1) count ys) (same from) ∙ ap (λ l. at_key from xs ++ l) (same_by (from + 1) count xs ys same)

  above_all : (x : X) (xs : List X) → ((k : ℕ) (d : X) → k < length xs → key x ≤ key (get_or xs k d))
      → AllByRecursion (λ y. key x ≤ key y) xs
  above_all x [] low = tt
  above_all x (y ∷ ys) low = (low 0 y (omega arith), above_all x ys (λ k d below. low (suc k) d (omega (arith, below))))

  pub ascends : (xs : List X) → IsNonDecreasingBy key xs → Ascends xs
  ascends [] up = tt
  ascends (x ∷ xs) up = (
    above_all x xs (λ k d below. up 0 (suc k) d (omega arith) (omega (arith, below))),
    ascends xs (λ i j d low below. up (suc i) (suc j) d (omega (arith, low)) (omega (arith, below))),
  )

  all_map : (x : X) (xs : List X) → AllByRecursion (λ y. key x ≤ key y) xs → AllByRecursion (λ n. key x ≤ n) (map key xs)
  all_map x [] all = tt
  all_map x (y ∷ ys) all = (all.0, all_map x ys all.1)

  pub ascending_keys : (xs : List X) → Ascends xs → AreAscending (map key xs)
  ascending_keys [] up = tt
  ascending_keys (x ∷ xs) up = (all_map x xs up.0, ascending_keys xs up.1)

  filter_same : (p q : X → Bool) → ((x : X) → p x ≡ q x) → (xs : List X) → filter p xs ≡ filter q xs
  filter_same p q same [] = refl
  filter_same p q same (x ∷ xs) =
      ap (λ b. if b then x ∷ filter p xs else filter p xs) (same x)
      ∙ ap (λ l. if q x then x ∷ l else l) (filter_same p q same xs)

  -- what ties with an element has its number
  pub stable_at : (e : X) (xs ys : List X) → IsStableByKey key nat_cmp xs ys → at_key (key e) ys ≡ at_key (key e) xs
  stable_at e xs ys stable =
      let tied = ties (λ x y. is_lt (nat_cmp (key x) (key y))) e in
      sym (filter_same tied (λ x. key x == key e) (λ x. tie_is (key e) (key x)) ys) ∙ stable e
      ∙ filter_same tied (λ x. key x == key e) (λ x. tie_is (key e) (key x)) xs

-- ---- references to marks

abbrev at_of : Bor Mark → ℕ
at_of mark = mark.now.at

abbrev all_now : List (Bor Mark) → List Mark
all_now refs = map (λ mark. mark.now) refs

-- a reference with an offset
abbrev ref_at : ℕ → Bor Mark
ref_at n = record { ref_ptr = (0, 0); now = record { at = n; sign = 0; text = [] } }

now_by : (b : Bool) (one : Bor Mark) (refs : List (Bor Mark)) → all_now (if b then one ∷ refs else refs) ≡ (if b then one.now ∷ all_now refs else all_now refs)
now_by true one refs = refl
now_by false one refs = refl

now_at : (n : ℕ) (refs : List (Bor Mark)) → all_now (at_key (Bor Mark) at_of n refs) ≡ filter (λ mark. mark.at == n) (all_now refs)
now_at n [] = refl
now_at n (one ∷ refs) =
    now_by (one.now.at == n) one (at_key (Bor Mark) at_of n refs)
    ∙ ap (λ l. if one.now.at == n then one.now ∷ l else l) (now_at n refs)

now_all : (from count : ℕ) (refs : List (Bor Mark)) → all_now (by_key (Bor Mark) at_of from count refs)
    ≡ flat_map (λ n. filter (λ mark. mark.at == n) (all_now refs)) (range_with_len from count)
now_all from zero refs = refl
now_all from (suc count) refs =
    map-append (λ mark. mark.now) (at_key (Bor Mark) at_of from refs) (by_key (Bor Mark) at_of (from + 1) count refs)
    ∙ ap (λ l. l ++ all_now (by_key (Bor Mark) at_of (from + 1) count refs)) (now_at from refs)
    ∙ ap (λ l. filter (λ mark. mark.at == from) (all_now refs) ++ l) (now_all (from + 1) count refs)

within_refs : (size : ℕ) (refs : List (Bor Mark)) → AllByRecursion (λ mark. mark.at ≤ size) (all_now refs)
    → AllByRecursion (λ mark. mark.now.at ≤ size) refs
within_refs size [] all = tt
within_refs size (one ∷ refs) all = (all.0, within_refs size refs all.1)

below_refs : (size : ℕ) (refs : List (Bor Mark)) → AllByRecursion (λ mark. mark.now.at ≤ size) refs
    → AllByRecursion (λ mark. mark.now.at < size + 1) refs
below_refs size [] all = tt
below_refs size (one ∷ refs) all = (omega (arith, all.0), below_refs size refs all.1)

-- what a stable sort of references to marks by their offsets gives
pub record IsInOrder (size : ℕ) (marks : List Mark) (sorted : List (Bor Mark)) : Type 0 where
  pub exact : all_now sorted ≡ by_offset size marks
  pub within : All (λ mark. mark.now.at ≤ size) sorted
  pub ascending : AreAscending (map (λ mark. mark.now.at) sorted)

pub in_order : (size : ℕ) (marks : List Mark) (refs sorted : List (Bor Mark)) → all_now refs ≡ marks → All (λ mark. mark.at ≤ size) marks
    → IsPermutation refs sorted → IsNonDecreasingBy at_of sorted → IsStableByKey at_of nat_cmp refs sorted → IsInOrder size marks sorted
in_order size marks refs sorted is all moved up stable =
    let ascends_all : Ascends (Bor Mark) at_of sorted = ascends (Bor Mark) at_of sorted up in
    let refs_in : AllByRecursion (λ mark. mark.now.at ≤ size) refs =
    within_refs size refs (recursion_from_All (λ mark. mark.at ≤ size) (all_now refs) (subst (All (λ mark. mark.at ≤ size)) (sym is) all)) in
    let within : All (λ mark. mark.now.at ≤ size) sorted =
    All-permutation (λ mark. mark.now.at ≤ size) refs sorted moved (All-from_recursion (λ mark. mark.now.at ≤ size) refs refs_in) in
    let itself : by_key (Bor Mark) at_of 0 (size + 1) sorted ≡ sorted =
    sorted_by (Bor Mark) at_of (size + 1) sorted ascends_all
    (below_refs size sorted (recursion_from_All (λ mark. mark.now.at ≤ size) sorted within)) in
    let same : by_key (Bor Mark) at_of 0 (size + 1) sorted ≡ by_key (Bor Mark) at_of 0 (size + 1) refs =
    same_by (Bor Mark) at_of 0 (size + 1) refs sorted (λ n. stable_at (Bor Mark) at_of (ref_at n) refs sorted stable) in
    record {
      exact = ap all_now (sym itself ∙ same) ∙ now_all 0 (size + 1) refs
          ∙ ap (λ l. flat_map (λ n. filter (λ mark. mark.at == n) l) (range_with_len 0 (size + 1))) is;
      within = within;
      ascending = ascending_keys (Bor Mark) at_of sorted ascends_all;
    }
