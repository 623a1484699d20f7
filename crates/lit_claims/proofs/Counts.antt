-- How many numbers of a list lie below a bound.
use Rattle.std.proofs.Common.{◌≡◌, ℕ, ◌+◌, ◌≤◌, ◌<◌, ◌==◌, nat_lt, if◌then◌else◌, List, [], ◌∷◌, ◌++◌, length, refl, arith}
use Rattle.std.proofs.lemmas.Bool.Decides.{nat_tests}
use Rattle.std.proofs.lemmas.List.Elements.{All-cons, All-head, All-nil, All-tail}
use Rattle.std.proofs.lemmas.List.Sums.{count_by-le-length, sum_by-append, sum_by-cons, sum_by_push}
use Rattle.std.specs.List.{All}
use Rattle.lit_claims.specs.Counted.{count_below, count_of}

pub below_cons : (bound x : ℕ) (xs : List ℕ) → count_below bound (x ∷ xs) ≡ (if nat_lt x bound then 1 else 0) + count_below bound xs
below_cons bound x xs = sum_by-cons (λ n. if nat_lt n bound then 1 else 0) x xs

pub below_append : (bound : ℕ) (xs ys : List ℕ) → count_below bound (xs ++ ys) ≡ count_below bound xs + count_below bound ys
below_append bound xs ys = sum_by-append (λ n. if nat_lt n bound then 1 else 0) xs ys

pub below_push : (bound : ℕ) (xs : List ℕ) (x : ℕ)
    → count_below bound (xs ++ x ∷ []) ≡ count_below bound xs + (if nat_lt x bound then 1 else 0)
below_push bound xs x = sum_by_push (λ n. if nat_lt n bound then 1 else 0) xs x

pub below_le : (bound : ℕ) (xs : List ℕ) → count_below bound xs ≤ length xs
below_le bound xs = count_by-le-length (λ n. nat_lt n bound) xs

-- where all numbers are counted, all lie below the bound, and the other way round
pub all_below : (bound : ℕ) (xs : List ℕ) → count_below bound xs ≡ length xs → All (λ n. n < bound) xs
all_below bound [] full = All-nil (λ n. n < bound)
all_below bound (x ∷ xs) full =
    let here = below_cons bound x xs in
    let most = below_le bound xs in
    All-cons (λ n. n < bound) x xs (grind (arith, nat_tests)) (all_below bound xs (grind (arith, nat_tests)))

pub below_all : (bound next : ℕ) (xs : List ℕ) → next ≤ bound → All (λ n. n < next) xs → count_below bound xs ≡ length xs
below_all bound next [] le all = refl
below_all bound next (x ∷ xs) le all =
    let here = below_cons bound x xs in
    let first = All-head (λ n. n < next) x xs all in
    let rest = below_all bound next xs le (All-tail (λ n. n < next) x xs all) in grind (arith, nat_tests)

-- a number stands as often as it lies below the next bound and not below itself
pub count_between : (y : ℕ) (xs : List ℕ) → count_of y xs + count_below y xs ≡ count_below (y + 1) xs
count_between y [] = refl
count_between y (x ∷ xs) =
    let here = below_cons y x xs in
    let next = below_cons (y + 1) x xs in
    let of = sum_by-cons (λ n. if n == y then 1 else 0) x xs in
    let rest = count_between y xs in grind (arith, nat_tests)
