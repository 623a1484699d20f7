-- Trials in the order of their numbers are those of the tests of a round, in order: where as many of the numbers lie below each bound
-- as do of the round's, and none falls, they are the round's (`in_order`); and a number tells the test (`are_of`). The first is the
-- hard one: the least of the numbers is the first, and the rest are those of the rest.
use Rattle.std.proofs.Common.{◌≡◌, ◌+◌, ◌-◌, ◌≤◌, ◌∙◌, ℕ, min, zero, suc, List, [], ◌∷◌, length, map, slice_get, refl, sym, ap, subst, arith}
use Rattle.std.proofs.lemmas.Bool.Decides.{nat_tests}
use Rattle.std.proofs.lemmas.List.Elements.{All-head, All-tail}
use Rattle.std.proofs.lemmas.Option.{get_or_from_slice_get}
use Rattle.std.specs.List.{All, range_with_len}
use Rattle.std.specs.List.Sorted.{IsNonDecreasingBy}
use Rattle.tt_outside.specs.Gave.{Gave}
use Rattle.tt_outside.specs.declared.test_data.Test.{Test}
use Rattle.lit_test.specs.declared.trial.Trial.{Trial}
use Rattle.lit_claims.specs.Counted.{count_below}
use Rattle.lit_claims.proofs.Counts.{below_cons}
use Rattle.lit_round.specs.Trials.{AreTrials, IsTrialAmong, IsTrialOf}
use Rattle.lit_round.specs.Work.{numbers_of}

none_below : {X : Type 0} (f : X → ℕ) (bound : ℕ) (xs : List X) → All (λ x. bound ≤ f x) xs → count_below bound (map f xs) ≡ 0
none_below f bound [] least = refl
none_below f bound (x ∷ xs) least =
    let here = below_cons bound (f x) (map f xs) in
    let rest = none_below f bound xs (All-tail (λ y. bound ≤ f y) x xs least) in
    grind (arith, nat_tests, here, rest, All-head (λ y. bound ≤ f y) x xs least)

pub in_order : {X : Type 0} (f : X → ℕ) (first count : ℕ) (xs : List X) → IsNonDecreasingBy f xs
    → ((bound : ℕ) → count_below bound (map f xs) ≡ min (bound - first) count) → map f xs ≡ range_with_len first count
in_order f first zero [] up counts = refl
in_order f first (suc count) [] up counts = let none = counts (first + suc count) in absurd (omega arith)
in_order f first zero (x ∷ xs) up counts =
    let here = below_cons (f x + 1) (f x) (map f xs) in
    let some = counts (f x + 1) in absurd (grind (arith, nat_tests))
in_order {X} f first (suc count) (x ∷ xs) up counts =
    let least : All (λ y. f x ≤ f y) xs = (λ k d low. up 0 (suc k) d (omega arith) (omega arith)) in
    let none = none_below f (f x) xs least in
    let at = below_cons (f x) (f x) (map f xs) in
    let past = below_cons (f x + 1) (f x) (map f xs) in
    let is : f x ≡ first = grind (arith, nat_tests, none, at, past, counts (f x), counts (f x + 1)) in
    let rest : (bound : ℕ) → count_below bound (map f xs) ≡ min (bound - (first + 1)) count =
    (λ bound. let here = below_cons bound (f x) (map f xs) in let all = counts bound in grind (arith, nat_tests)) in
    let others = in_order f (first + 1) count xs (λ i j d le low. up (suc i) (suc j) d (omega arith) (omega arith)) rest in
    ap (λ n. n ∷ map f xs) is ∙ ap (λ ns. first ∷ ns) others

pub are_of : (gave : Gave) (first at : ℕ) (all tests : List Test) (trials : List Trial)
    → ((i : ℕ) → slice_get all (at + i) ≡ slice_get tests i) → numbers_of trials ≡ range_with_len (first + at) (length tests)
    → All (IsTrialAmong gave first all) trials → AreTrials gave (first + at) tests trials
are_of gave first at all [] [] same numbers among = tt
are_of gave first at all [] (x ∷ xs) same numbers among = let long = ap length numbers in absurd (omega arith)
are_of gave first at all (test ∷ tests) [] same numbers among = let long = ap length numbers in absurd (omega arith)
are_of gave first at all (test ∷ tests) (x ∷ xs) same numbers among =
    let t = All-head (IsTrialAmong gave first all) x xs among in
    let all_of : x.number ∷ numbers_of xs ≡ (first + at) ∷ range_with_len (first + at + 1) (length tests) = numbers in
    let number : x.number ≡ first + at = cc (all_of) in
    let here : t.place ≡ at + 0 = omega (arith, number, t.is.number) in
    let its : t.its ≡ test =
    sym (get_or_from_slice_get all t.place t.its test t.at) ∙ get_or_from_slice_get all t.place test test (ap (slice_get all) here ∙ same 0) in
    let place : first + t.place ≡ first + at = omega arith in
    let others : numbers_of xs ≡ range_with_len (first + at + 1) (length tests) = cc (all_of) in
    let next : first + at + 1 ≡ first + (at + 1) = omega arith in (
      subst (λ n. IsTrialOf gave n test x) place (subst (λ u. IsTrialOf gave (first + t.place) u x) its t.is),
      subst (λ n. AreTrials gave n tests xs) (sym next) (are_of gave first (at + 1) all tests xs
          (λ i. ap (slice_get all) (omega arith) ∙ same (suc i))
          (others ∙ ap (λ n. range_with_len n (length tests)) next)
          (All-tail (IsTrialAmong gave first all) x xs among)),
    )
