-- Digits and the numbers that they spell.
use Rattle.std.proofs.Common.{◌≡◌, ℕ, suc, ◌+◌, ◌-◌, ◌*◌, ◌<◌, ◌≤◌, true, false, List, [], ◌∷◌, length, take, drop, get_or, min, refl, arith, drop-cons, add-one}
use Rattle.std.proofs.lemmas.List.Sums.{prefix_len-drop_all}
use Rattle.ere_tree.specs.Class.{is_digit}
use Rattle.ere_tree.specs.Bound.{digit_count, number_from}

-- numbers that are one up to 256 stay so behind further digits
pub capped : (m n : ℕ) (digits : List ℕ) → min 256 m ≡ min 256 n →
    min 256 (number_from m digits) ≡ min 256 (number_from n digits)
unfolding number_from
capped m n [] same = same
capped m n (digit ∷ rest) same = capped (m * 10 + (digit - 48)) (n * 10 + (digit - 48)) rest (omega arith)

-- the digits from a place on, where the byte there is a digit
pub digit_here : (text : List ℕ) (i : ℕ) → i < length text → is_digit (get_or text i 0) ≡ true →
    digit_count (drop i text) ≡ digit_count (drop (i + 1) text) + 1
digit_here text i low is = rw (add-one i, drop-cons text i 0, is) (omega arith)

-- and where it's none
pub no_digit_here : (text : List ℕ) (i : ℕ) → i < length text → is_digit (get_or text i 0) ≡ false →
    digit_count (drop i text) ≡ 0
no_digit_here text i low is = rw (drop-cons text i 0, is) refl

-- the number that the digits from a place on spell behind another
abbrev pub number_behind : ℕ → List ℕ → ℕ
number_behind n text = number_from n (take (digit_count text) text)

pub number_here : (n m : ℕ) (text : List ℕ) (i : ℕ) → i < length text → is_digit (get_or text i 0) ≡ true →
    m ≡ min (n * 10 + (get_or text i 0 - 48)) 256 →
    min 256 (number_behind m (drop (i + 1) text)) ≡ min 256 (number_behind n (drop i text))
unfolding number_from
number_here n m text i low is next =
    let b : ℕ = get_or text i 0 in
    let same : min 256 m ≡ min 256 (n * 10 + (b - 48)) = omega arith in
    let count : ℕ = digit_count (drop (suc i) text) in
    let more : 1 + count ≡ suc count = omega arith in
    rw (add-one i, drop-cons text i 0, is, more)
    (capped m (n * 10 + (b - 48)) (take (digit_count (drop (suc i) text)) (drop (suc i) text)) same)

pub number_ends : (n : ℕ) (text : List ℕ) (i : ℕ) → digit_count (drop i text) ≡ 0 → number_behind n (drop i text) ≡ n
unfolding number_from
number_ends n text i none = rw none refl

pub number_at_end : (n : ℕ) (text : List ℕ) (i : ℕ) → length text ≤ i → number_behind n (drop i text) ≡ n
number_at_end n text i past = number_ends n text i (prefix_len-drop_all is_digit text i past)

-- the steps of a loop over digits
pub ruleset digit_steps = (digit_here, no_digit_here, number_here, number_ends, number_at_end)
