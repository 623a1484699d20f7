-- A tree and words have one list of tests.
-- Idea: lists that rise strictly by a key and have the same items are equal, and a file of a tree has one test.
-- The hard one is `same_lists`.
use Rattle.std.proofs.Common.{◌≡◌, ◌⊎◌, ℕ, zero, suc, ◌<◌, List, [], ◌∷◌, ◌++◌, length, map, get_or, refl, sym, ap, ◌∙◌, subst, arith, inl, inr, Ordering, Less}
use Rattle.std.proofs.lemmas.Cmp.{nat_list_cmp_total}
use Rattle.std.proofs.lemmas.List.Elements.{recursion_from_All}
use Rattle.std.specs.Cmp.{IsTotalOrder}
use Rattle.std.specs.List.{AllByRecursion}
use Rattle.std.specs.List.Sorted.{IsStrictlySortedBy}
use Rattle.tt_outside.specs.declared.test_data.Test.{Test}
use Rattle.tt_outside.specs.declared.tree.Node.{Node}
use Rattle.lit_find.proofs.LawLemmas.{one_test}
use Rattle.lit_find.specs.Found.{AreTests, IsRight}
use Rattle.lit_paths.specs.Paths.{Parts}
use Rattle.run_laws.specs.Calls.{IsOneList}

-- ---- lists with the same items

-- an item is one of a list
abbrev pub IsOneOf : {X : Type 0} → List X → X → Type 0
IsOneOf [] x = ⊥
IsOneOf (y ∷ ys) x = (y ≡ x) ⊎ IsOneOf ys x

one_at : {X : Type 0} (xs : List X) (k : ℕ) (x d : X) → k < length xs → get_or xs k d ≡ x → IsOneOf xs x
one_at [] k x d low is = absurd (omega (arith, low))
one_at (y ∷ ys) zero x d low is = inl is
one_at (y ∷ ys) (suc k) x d low is = inr (one_at ys k x d (omega (arith, low)) is)

module _ {X K : Type 0} (key : X → K) (cmp : K → K → Ordering) (order : IsTotalOrder cmp) where
  -- no key is below itself, and of two at most one is below the other
  one_way : (k l : K) → cmp k l ≡ Less → cmp l k ≡ Less → ⊥
  one_way k l less more = let other = order.antisymm k l in cc

  later : (k : K) (xs : List X) (x : X) → AllByRecursion (λ l. cmp k l ≡ Less) (map key xs) → IsOneOf xs x → cmp k (key x) ≡ Less
  later k [] x above is = absurd is
  later k (y ∷ ys) x (first, rest) (inl same) = ap (λ z. cmp k (key z)) (sym same) ∙ first
  later k (y ∷ ys) x (first, rest) (inr is) = later k ys x rest is

  -- what is above an item isn't that item
  without : (y : X) (ys zs : List X) → AllByRecursion (λ l. cmp (key y) l ≡ Less) (map key zs) → AllByRecursion (IsOneOf (y ∷ ys)) zs
      → AllByRecursion (IsOneOf ys) zs
  without y ys [] above all = tt
  without y ys (z ∷ zs) (first, rest) (inl same, all) =
      absurd (let here = ap (λ w. cmp (key y) (key w)) same ∙ first in one_way (key y) (key y) here here)
  without y ys (z ∷ zs) (first, rest) (inr is, all) = (is, without y ys zs rest all)

  first_of : (x y : X) (xs ys : List X) → AllByRecursion (λ l. cmp (key x) l ≡ Less) (map key xs)
      → AllByRecursion (λ l. cmp (key y) l ≡ Less) (map key ys) → IsOneOf (y ∷ ys) x → IsOneOf (x ∷ xs) y → y ≡ x
  first_of x y xs ys above over (inl same) its = same
  first_of x y xs ys above over (inr is) (inl same) = sym same
  first_of x y xs ys above over (inr is) (inr its) =
      absurd (one_way (key x) (key y) (later (key x) xs y above its) (later (key y) ys x over is))

  pub same_lists : (xs ys : List X) → IsStrictlySortedBy cmp (map key xs) → IsStrictlySortedBy cmp (map key ys)
      → AllByRecursion (IsOneOf ys) xs → AllByRecursion (IsOneOf xs) ys → xs ≡ ys
  unfolding IsStrictlySortedBy
  same_lists [] [] rise up forth back = refl
  same_lists [] (y ∷ ys) rise up forth (none, back) = absurd none
  same_lists (x ∷ xs) [] rise up (none, forth) back = absurd none
  same_lists (x ∷ xs) (y ∷ ys) (above, rise) (over, up) (here, forth) (there, back) =
      let same : y ≡ x = first_of x y xs ys above over here there in
      let more = subst (λ z. AllByRecursion (λ l. cmp (key z) l ≡ Less) (map key xs)) (sym same) above in
      let less = subst (λ z. AllByRecursion (λ l. cmp (key z) l ≡ Less) (map key ys)) same over in
      let rest = same_lists xs ys rise up (without y ys xs more forth) (without x xs ys less back) in
      ap (λ z. z ∷ xs) (sym same) ∙ ap (λ zs. y ∷ zs) rest

-- ---- tests of a tree

-- a test of one list is one of another
found_again : (nodes : List Node) (words : List Parts) (others : List Test) (test : Test) → AreTests nodes words others
    → IsRight nodes words test → IsOneOf others test
found_again nodes words others test are right =
    let (k, other, low, at, path) = are.whole (right.rooted.root ++ right.below) right.parts right.passes in
    let its = subst (IsRight nodes words) at (are.right k other low) in
    let same = one_test nodes words words other test its right (path ∙ sym right.made.file) in
    one_at others k test other low (at ∙ same)

all_again : (nodes : List Node) (words : List Parts) (others tests : List Test) → AreTests nodes words others
    → AllByRecursion (IsRight nodes words) tests → AllByRecursion (IsOneOf others) tests
all_again nodes words others [] are right = tt
all_again nodes words others (test ∷ tests) are (first, rest) =
    (found_again nodes words others test are first, all_again nodes words others tests are rest)

pub one_list : IsOneList
one_list nodes words one other first second =
    same_lists (λ (test : Test). test.path) _ nat_list_cmp_total one other first.ascending second.ascending
    (all_again nodes words other one second (recursion_from_All (IsRight nodes words) one first.right))
    (all_again nodes words one other first (recursion_from_All (IsRight nodes words) other second.right))
