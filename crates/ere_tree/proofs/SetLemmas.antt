-- Sets of bytes in four words: which bytes are in them, and when two of them are one.
-- A byte's bit stands in one word, so each change of a set is a change of that word; std's lemmas on single bits do
-- the rest. `complement_has` is the long one: four words, in the first of which the newline's bit is cleared too.
use Rattle.std.proofs.Common.{◌≡◌, ◌≢◌, ℕ, zero, suc, ◌-◌, ◌*◌, ◌^◌, ◌<◌, ◌≤◌, ◌/◌, ◌%◌, ◌↔◌, inl, inr, ◌++◌, ◌∙◌, sym, Bool, true, false, cond, List, [], ◌∷◌, IsTrue, ◌&&◌, ◌||◌, ◌==◌, not, bit_and, bit_or, slice_index, slice_set, length, w64, refl, ap, subst, arith, lit<}
use Rattle.std.specs.List.{Contains, filter}
use Rattle.std.proofs.lemmas.List.Elements.{Contains-append_cases, Contains-append_left, Contains-append_right, filter-append}
use Rattle.std.specs.Int.{bit_at}
use Rattle.std.proofs.lemmas.Bool.Decides.{eqb_tells, nat_tests, same_from_decides}
use Rattle.std.proofs.Math.ListN.{get_or-append}
use Rattle.std.proofs.lemmas.Bool.{cases_lt}
use Rattle.std.proofs.lemmas.List.{get_or-set_same, get_or-set_other, get_or_past}
use Rattle.std.proofs.lemmas.Nat.Bits.{shr_and_one, bit_at_or, bit_at_not, bit_at-lt, bit_at_set_same, bit_at_clear_same, bit_at_clear_other, bit_at_set_other}
use Rattle.ere_tree.specs.Bytes.{HasBytes}
use Rattle.ere_tree.specs.View.{has_bit, members_of}
use Rattle.ere_tree.specs.Tree.{numbers_below, bytes_passing}

-- a filter over the numbers below n looks only at these
pub filter_below : (f g : ℕ → Bool) (n : ℕ) → ((b : ℕ) → b < n → f b ≡ g b) →
    filter f (numbers_below n) ≡ filter g (numbers_below n)
unfolding numbers_below
filter_below f g zero same = refl
filter_below f g (suc n) same =
    let before : filter f (numbers_below n) ≡ filter g (numbers_below n) =
    filter_below f g n (λ b h. same b (omega arith)) in
    let here : f n ≡ g n = same n (omega arith) in
    rw (filter-append f, filter-append g, before, here) refl

-- tests that agree on every byte give one set
pub bytes_passing_agree : (f g : ℕ → Bool) → ((b : ℕ) → b < 256 → f b ≡ g b) → bytes_passing f ≡ bytes_passing g
unfolding bytes_passing
bytes_passing_agree f g same = filter_below f g 256 same

-- what is in a list of one number, or of none
one_kept : (v : Bool) (n b : ℕ) → Contains (cond v (n ∷ []) []) b → (n ≡ b) × (v ≡ true)
one_kept true n b (zero, low, at) = (at, refl)
one_kept true n b (suc k, low, at) = absurd (omega arith)
one_kept false n b (k, low, at) = absurd (omega arith)

-- what a filter keeps of the numbers below n is below n and passes
below_tells : (f : ℕ → Bool) (n b : ℕ) → Contains (filter f (numbers_below n)) b → (b < n) × IsTrue (f b)
unfolding numbers_below
below_tells f zero b (k, low, at) = absurd (omega arith)
below_tells f (suc n) b has =
    elim (Contains-append_cases (filter f (numbers_below n)) (filter f (n ∷ [])) b (rw filter-append at has)) [
      | inl old ↦ let known : (b < n) × IsTrue (f b) = below_tells f n b old in (omega arith, known.1)
      | inr last ↦ let known : (n ≡ b) × (f n ≡ true) = one_kept (f n) n b last in (omega arith, cc)
    ]

-- a number that passes is kept where it stands alone
alone_kept : (v : Bool) (n : ℕ) → v ≡ true → Contains (cond v (n ∷ []) []) n
alone_kept true n passes = (zero, omega arith, refl)
alone_kept false n passes = cc

-- and all of these are kept
below_kept : (f : ℕ → Bool) (n b : ℕ) → b < n → IsTrue (f b) → Contains (filter f (numbers_below n)) b
unfolding numbers_below
below_kept f zero b low passes = absurd (omega arith)
below_kept f (suc n) b low passes =
    elim (eqb_tells b n) [
      | inl (_, same) ↦ rw (filter-append f)
          (Contains-append_right (filter f (numbers_below n)) (filter f (n ∷ [])) b
          (subst (λ (m : ℕ). Contains (filter f (m ∷ [])) b) same (alone_kept (f b) b passes)))
      | inr (_, other) ↦ let before : b < n = omega arith in
          rw (filter-append f)
          (Contains-append_left (filter f (numbers_below n)) (filter f (n ∷ [])) b (below_kept f n b before passes))
    ]

-- a byte is in the set of a test exactly where it passes
pub passing_tells : (f : ℕ → Bool) (b : ℕ) → Contains (bytes_passing f) b → (b < 256) × IsTrue (f b)
unfolding bytes_passing
passing_tells f b has = below_tells f 256 b has

pub passing_has : (f : ℕ → Bool) (b : ℕ) → b < 256 → IsTrue (f b) → Contains (bytes_passing f) b
unfolding bytes_passing
passing_has f b low passes = below_kept f 256 b low passes

-- sets that are equal agree on every byte
pub passing_agree : (f g : ℕ → Bool) → bytes_passing f ≡ bytes_passing g → (b : ℕ) → b < 256 → f b ≡ g b
passing_agree f g same b low = same_from_decides {P = Contains (bytes_passing f) b} (f b) (g b)
    (passing_has f b low, (λ inside. (passing_tells f b inside).1))
    ((λ passes. rw same (passing_has g b low passes)), (λ inside. (passing_tells g b (rw same at inside)).1))

-- one bit, as a test

or_bit : (x y i : ℕ) → (bit_at (bit_or x y) i == 1) ≡ ((bit_at x i == 1) || (bit_at y i == 1))
or_bit x y i = rw (bit_at_or x y i) (grind (arith, nat_tests, bit_at-lt x i, bit_at-lt y i))

not_bit : (x i : ℕ) → x < 2 ^ 64 → i < 64 → (bit_at (2 ^ 64 - 1 - x) i == 1) ≡ not (bit_at x i == 1)
not_bit x i low within = rw (bit_at_not w64 x i low within) (grind (arith, nat_tests, bit_at-lt x i))

-- a byte is in one of four words
at_word : (P : ℕ → Type 0) → (b : ℕ) → b < 256 → P 0 → P 1 → P 2 → P 3 → P (b / 64)
at_word P b low p q r s = four P (b / 64) (omega arith) p q r s
  where
    four : (P : ℕ → Type 0) → (n : ℕ) → n < 4 → P 0 → P 1 → P 2 → P 3 → P n
    four P zero h p q r s = p
    four P (suc zero) h p q r s = q
    four P (suc (suc zero)) h p q r s = r
    four P (suc (suc (suc zero))) h p q r s = s
    four P (suc (suc (suc (suc n)))) h p q r s = absurd (omega arith)

-- four words, each joined with its fellow
pub union_has : (xs ys : List ℕ) → HasBytes
    (bit_or (slice_index xs 0) (slice_index ys 0) ∷ bit_or (slice_index xs 1) (slice_index ys 1) ∷
    bit_or (slice_index xs 2) (slice_index ys 2) ∷ bit_or (slice_index xs 3) (slice_index ys 3) ∷ [])
    (λ b. has_bit xs b || has_bit ys b)
union_has xs ys b low = at_word
    (λ (w : ℕ). (bit_at (slice_index
    (bit_or (slice_index xs 0) (slice_index ys 0) ∷ bit_or (slice_index xs 1) (slice_index ys 1) ∷
    bit_or (slice_index xs 2) (slice_index ys 2) ∷ bit_or (slice_index xs 3) (slice_index ys 3) ∷ []) w)
    (b % 64) == 1) ≡ ((bit_at (slice_index xs w) (b % 64) == 1) || (bit_at (slice_index ys w) (b % 64) == 1)))
    b low (search or_bit) (search or_bit) (search or_bit) (search or_bit)

-- a word in which one more bit is set
set_bit : (x k i : ℕ) → k < 64 → (bit_at (bit_or x (1 * 2 ^ k % 2 ^ 64)) i == 1) ≡ ((bit_at x i == 1) || (i == k))
set_bit x k i within = elim (eqb_tells i k) [
  | inl (_, same) ↦ grind (arith, nat_tests, bit_at_set_same w64 x k within)
  | inr (_, other) ↦ grind (arith, nat_tests, bit_at_set_other w64 x k within i other)
]

-- words in one of which one more bit is set
pub has_bit-set : (xs : List ℕ) (byte : ℕ) → byte / 64 < length xs → (b : ℕ) →
    has_bit (slice_set xs (byte / 64) (bit_or (slice_index xs (byte / 64)) (1 * 2 ^ (byte % 64) % 2 ^ 64))) b
    ≡ (has_bit xs b || (b == byte))
has_bit-set xs byte within b =
    let more : ℕ = bit_or (slice_index xs (byte / 64)) (1 * 2 ^ (byte % 64) % 2 ^ 64) in
    elim (eqb_tells (b / 64) (byte / 64)) [
      | inl (_, same) ↦
          let at : slice_index (slice_set xs (byte / 64) more) (b / 64) ≡ more =
          rw same (get_or-set_same xs (byte / 64) more 0 (omega arith)) in
          let tests : (b == byte) ≡ (b % 64 == byte % 64) = grind (arith, nat_tests) in
          rw (at, tests, same) (set_bit (slice_index xs (byte / 64)) (byte % 64) (b % 64) (omega arith))
      | inr (_, other) ↦
          let at : slice_index (slice_set xs (byte / 64) more) (b / 64) ≡ slice_index xs (b / 64) =
          get_or-set_other xs (byte / 64) (b / 64) more 0 other in
          let differs : b ≢ byte = λ e. other (ap (λ n. n / 64) e) in
          let tests : (b == byte) ≡ false = grind (arith, nat_tests) in
          rw (at, tests) (grind (arith, nat_tests))
    ]

-- of a set of bytes
pub insert_has : (xs : List ℕ) (byte : ℕ) → length xs ≡ 4 → byte < 256 → HasBytes
    (slice_set xs (byte / 64) (bit_or (slice_index xs (byte / 64)) (1 * 2 ^ (byte % 64) % 2 ^ 64)))
    (λ b. has_bit xs b || (b == byte))
insert_has xs byte four within b low = has_bit-set xs byte (omega arith) b

-- words with words of no bit behind them
pub has_bit-more : (xs : List ℕ) (b : ℕ) → has_bit (xs ++ 0 ∷ []) b ≡ has_bit xs b
has_bit-more xs b = elim (cases_lt (b / 64) (length xs)) [
  | inl within ↦ ap (λ w. bit_at w (b % 64) == 1) (get_or-append xs (0 ∷ []) 0 (b / 64) within)
  | inr past ↦ ap (λ w. bit_at w (b % 64) == 1) (none_behind xs (b / 64) past ∙ sym (get_or_past xs (b / 64) 0 past))
]
  where
    none_behind : (xs : List ℕ) (i : ℕ) → length xs ≤ i → slice_index (xs ++ 0 ∷ []) i ≡ 0
    none_behind [] zero past = refl
    none_behind [] (suc i) past = get_or_past [] i 0 (omega arith)
    none_behind (x ∷ xs) zero past = absurd (omega arith)
    none_behind (x ∷ xs) (suc i) past = none_behind xs i (omega arith)

-- a word in which bit 10 is cleared
clear_bit : (x i : ℕ) → i < 64 →
    (bit_at (bit_and x (2 ^ 64 - 1 - 2 ^ 10)) i == 1) ≡ ((bit_at x i == 1) && not (i == 10))
clear_bit x i within = elim (eqb_tells i 10) [
  | inl (_, same) ↦ grind (arith, nat_tests, bit_at_clear_same w64 x 10 (lit< tt))
  | inr (_, other) ↦ grind (arith, nat_tests, bit_at_clear_other w64 x 10 (lit< tt) i within other)
]

-- four words, each turned, and the newline cleared
pub complement_has : (xs : List ℕ) → slice_index xs 0 < 2 ^ 64 → slice_index xs 1 < 2 ^ 64 →
    slice_index xs 2 < 2 ^ 64 → slice_index xs 3 < 2 ^ 64 → HasBytes
    (bit_and (2 ^ 64 - 1 - slice_index xs 0) (2 ^ 64 - 1 - 2 ^ 10) ∷ (2 ^ 64 - 1 - slice_index xs 1) ∷
    (2 ^ 64 - 1 - slice_index xs 2) ∷ (2 ^ 64 - 1 - slice_index xs 3) ∷ [])
    (λ b. not (has_bit xs b) && not (b == 10))
complement_has xs p q r s b low = at_word
    (λ (w : ℕ). b / 64 ≡ w → (bit_at (slice_index
    (bit_and (2 ^ 64 - 1 - slice_index xs 0) (2 ^ 64 - 1 - 2 ^ 10) ∷ (2 ^ 64 - 1 - slice_index xs 1) ∷
    (2 ^ 64 - 1 - slice_index xs 2) ∷ (2 ^ 64 - 1 - slice_index xs 3) ∷ []) w) (b % 64) == 1)
    ≡ (not (bit_at (slice_index xs w) (b % 64) == 1) && not (b == 10)))
    b low
    (λ e. let same : b % 64 ≡ b = omega arith in
    rw (
      clear_bit (2 ^ 64 - 1 - slice_index xs 0) (b % 64) (omega arith),
      not_bit (slice_index xs 0) (b % 64) p (omega arith),
    )
    (ap (λ (n : ℕ). not (bit_at (slice_index xs 0) (b % 64) == 1) && not (n == 10)) same))
    (λ e. rw (not_bit (slice_index xs 1) (b % 64) q (omega arith)) (grind (arith, nat_tests)))
    (λ e. rw (not_bit (slice_index xs 2) (b % 64) r (omega arith)) (grind (arith, nat_tests)))
    (λ e. rw (not_bit (slice_index xs 3) (b % 64) s (omega arith)) (grind (arith, nat_tests)))
    refl

-- the code's test of a bit tells what is in the set
pub has_member : (xs : List ℕ) (byte : ℕ) → byte < 256 →
    IsTrue (bit_and (slice_index xs (byte / 64) / 2 ^ (byte % 64)) 1 == 1) ↔ Contains (members_of xs) byte
has_member xs byte low = rw (shr_and_one (slice_index xs (byte / 64)) (byte % 64))
    (passing_has (has_bit xs) byte low, (λ inside. (passing_tells (has_bit xs) byte inside).1))
