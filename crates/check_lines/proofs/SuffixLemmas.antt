-- The number that digits spell, digit by digit, and up to a bound.
use Rattle.std.proofs.Common.{◌≡◌, ℕ, ◌+◌, ◌-◌, ◌*◌, ◌<◌, ◌≤◌, Bool, true, false, Some, None, List, cond, length, get_or, take, take_all, refl, sym, ◌∙◌, ap, arith, min, ◌&&◌}
use Rattle.std.proofs.lemmas.Bool.Decides.{nat_tests}
use Rattle.std.proofs.lemmas.List.Sums.{fold_more}
use Rattle.std.specs.Prelude.{nat_le}
use Rattle.check_lines.specs.Suffix.{amount, number_of}

-- a digit more
pub number_next : (digits : List ℕ) (k value : ℕ) → k < length digits → value ≡ min (number_of (take k digits)) 1000000
    → min (value * 10 + (get_or digits k 0 - 48)) 1000000 ≡ min (number_of (take (k + 1) digits)) 1000000
number_next digits k value inside so_far =
    let next : number_of (take (k + 1) digits) ≡ number_of (take k digits) * 10 + (get_or digits k 0 - 48) =
    fold_more (λ value digit. value * 10 + (digit - 48)) 0 digits k 0 inside in
    omega (arith, so_far, next)

pub number_all : (digits : List ℕ) (k value : ℕ) → length digits ≤ k → value ≡ min (number_of (take k digits)) 1000000
    → value ≡ min (number_of digits) 1000000
number_all digits k value ends so_far = so_far ∙ ap (λ l. min (number_of l) 1000000) (take_all k digits ends)

-- within the bound the number is the number itself
pub amount_some : (digits : List ℕ) (n : ℕ) → n ≡ min (number_of digits) 1000000 → 1 ≤ n → n ≤ 100000
    → Some n ≡ amount digits
amount_some digits n is low high =
    let same : number_of digits ≡ n = omega (arith, is) in
    let one : nat_le 1 (number_of digits) ≡ true = grind (arith, nat_tests) in
    let most : nat_le (number_of digits) 100000 ≡ true = grind (arith, nat_tests) in
    sym (ap (λ t. cond (t && nat_le (number_of digits) 100000) (Some (number_of digits)) None) one
    ∙ ap (λ t. cond t (Some (number_of digits)) None) most ∙ ap Some same)

pub amount_none : (digits : List ℕ) (n : ℕ) → n ≡ min (number_of digits) 1000000 → (1 ≤ n → n ≤ 100000 → ⊥)
    → None ≡ amount digits
amount_none digits n is none = by_tests (nat_le 1 (number_of digits)) (nat_le (number_of digits) 100000) refl refl
  where
    by_tests : (one most : Bool) → nat_le 1 (number_of digits) ≡ one → nat_le (number_of digits) 100000 ≡ most
        → None ≡ cond (one && most) (Some (number_of digits)) None
    by_tests false most low high = refl
    by_tests true false low high = refl
    by_tests true true low high =
        let at_least : 1 ≤ number_of digits = grind (arith, nat_tests) in
        let at_most : number_of digits ≤ 100000 = grind (arith, nat_tests) in
        absurd (none (omega (arith, is)) (omega (arith, is)))
