-- A number only grows by further digits.
use Rattle.std.proofs.Common.{◌≡◌, ℕ, ◌+◌, ◌*◌, ◌≤◌, ◌<◌, ◌^◌, suc, List, [], ◌∷◌, Some, None, length, drop, get_or, arith, sym, ap, ◌∙◌}
use Rattle.std.proofs.Math.Seq.{drop-cons}
use Rattle.std.proofs.lemmas.List.{drop_all}
use Rattle.std.proofs.lemmas.Bool.Decides.{nat_tests}
use Rattle.std.specs.Char.{digit_value}
use Rattle.std.specs.Str.Parse.{digits_value, digits_value_after}
use Rattle.num_spell.specs.Spelling.{number_of}

at_least : (base n : ℕ) → 1 ≤ base → n ≤ n * base
at_least base n h = grind arith

pub grows : (base n : ℕ) (bs : List ℕ) → 1 ≤ base → n ≤ digits_value_after base n bs
grows base n [] h = omega arith
grows base n (b ∷ bs) h = omega (arith, at_least base n h, grows base (n * base + digit_value b) bs h)

-- a number past 128 bits, and one that they hold
past : (base : ℕ) (text : List ℕ) → 2 ^ 128 ≤ digits_value base text → number_of base text ≡ None
past base text h = grind (arith, nat_tests)

fits : (base : ℕ) (text : List ℕ) → digits_value base text < 2 ^ 128
    → number_of base text ≡ Some (digits_value base text)
fits base text h = grind (arith, nat_tests)

-- once all digits are read
pub all_read : (base value i : ℕ) (text : List ℕ) → length text ≤ i → value < 2 ^ 128
    → digits_value_after base value (drop i text) ≡ digits_value base text → Some value ≡ number_of base text
all_read base value i text over small e =
    let none : drop i text ≡ [] = drop_all i text over in
    let same : value ≡ digits_value base text = ap (digits_value_after base value) (sym none) ∙ e in
    ap Some same ∙ sym (fits base text (omega (arith, same)))

-- where the next step is too large
pub too_large : (base value i : ℕ) (text : List ℕ) → 1 ≤ base → i < length text
    → digits_value_after base value (drop i text) ≡ digits_value base text
    → 2 ^ 128 ≤ value * base + digit_value (get_or text i 0) → None ≡ number_of base text
too_large base value i text low within e large =
    let next : ℕ = value * base + digit_value (get_or text i 0) in
    let step : digits_value_after base value (drop i text) ≡ digits_value_after base next (drop (suc i) text) =
    ap (digits_value_after base value) (drop-cons text i 0 within) in
    let more = grows base next (drop (suc i) text) low in
    sym (past base text (omega (arith, large, more, step, e)))
