-- Lemmas about decimal numbers, digit by digit.
use Rattle.std.proofs.Common.{◌≡◌, ℕ, suc, ◌+◌, ◌-◌, ◌*◌, ◌<◌, ◌≤◌, ◌^◌, false, List, [], ◌∷◌, length, drop, drop-cons, get_or, arith, Some, None, ap, sym, subst, ◌∙◌}
use Rattle.std.proofs.lemmas.List.{drop_all}
use Rattle.std.proofs.lemmas.Grind.{common_steps}
use Rattle.opt_words.specs.Number.{number_behind, fits_behind, decimal, with_digit}

-- more digits never make a number smaller
pub number_grows : (text : List ℕ) (n : ℕ) → n ≤ number_behind n text
number_grows [] n = omega arith
number_grows (digit ∷ rest) n = omega (arith, number_grows rest (n * 10 + (digit - 48)))

-- behind a digit that is taken, the rest spells what the whole does
pub taken_digit : (n m byte : ℕ) (rest : List ℕ) → with_digit n byte ≡ Some m
    → (fits_behind m rest ≡ fits_behind n (byte ∷ rest)) × (number_behind m rest ≡ number_behind n (byte ∷ rest))
taken_digit n m byte rest took = grind (arith, common_steps)

-- a byte that isn't taken is no digit of a number of 64 bits
pub refused_digit : (n byte : ℕ) (rest : List ℕ) → with_digit n byte ≡ None → fits_behind n (byte ∷ rest) ≡ false
refused_digit n byte rest took = grind (arith, common_steps, number_grows rest (n * 10 + (byte - 48)))

-- what is spelled where all digits were taken
pub spelled : (n : ℕ) (text : List ℕ) (i : ℕ) → 0 < length text → length text ≤ i → n < 2 ^ 64
    → fits_behind n (drop i text) ≡ fits_behind 0 text → number_behind n (drop i text) ≡ number_behind 0 text
    → Some n ≡ decimal text
spelled n text i some past small fits same =
    let fits : fits_behind n [] ≡ fits_behind 0 text = subst (λ rest. fits_behind n rest ≡ fits_behind 0 text) (drop_all i text past) fits in
    let same : n ≡ number_behind 0 text = subst (λ rest. number_behind n rest ≡ number_behind 0 text) (drop_all i text past) same in
    grind (arith, common_steps)

-- a text isn't a number where a byte of it isn't taken
pub not_spelled : (n : ℕ) (text : List ℕ) (i : ℕ) → i < length text → with_digit n (get_or text i 0) ≡ None
    → fits_behind n (drop i text) ≡ fits_behind 0 text → None ≡ decimal text
not_spelled n text i low refused fits =
    let no : fits_behind 0 text ≡ false = sym fits ∙ ap (fits_behind n) (drop-cons text i 0 low)
    ∙ refused_digit n (get_or text i 0) (drop (suc i) text) refused in
    grind (arith, common_steps)
