-- Sets of bytes in the code's words as lists of bytes: in both cases, all others, one byte, none.
-- A byte is in a list of bytes that pass a test where it passes, so lists agree where tests do on every byte.
-- `closed_with` is the step of the loop that adds other cases.
use Rattle.std.proofs.Common.{◌≡◌, ℕ, zero, suc, ◌+◌, ◌<◌, ◌≤◌, nat_le, nat_lt, Bool, true, false, not, ◌&&◌, ◌||◌, ◌==◌, List, [], ◌∷◌, refl, sym, ap, ◌∙◌, subst, inl, inr, arith, eqb-true, eq-eqb}
use Rattle.std.specs.List.{Contains, filter}
use Rattle.std.proofs.lemmas.Bool.{cases_lt}
use Rattle.std.proofs.lemmas.Bool.Decides.{eqb_tells, nat_tests, same_from_decides}
use Rattle.std.proofs.lemmas.List.Elements.{filter-append}
use Rattle.std.proofs.lemmas.List.Folds.{Any-from_list_any, list_any_at}
use Rattle.ere_tree.specs.Bytes.{HasBytes}
use Rattle.ere_tree.specs.Case.{other_case, is_among, both_cases, all_others}
use Rattle.ere_tree.specs.Tree.{numbers_below, bytes_passing}
use Rattle.ere_tree.specs.View.{has_bit, members_of}
use Rattle.ere_tree.proofs.SetLemmas.{filter_below, bytes_passing_agree, passing_tells, passing_has}

-- a byte is one of a list where it is in it
pub among_contains : (bytes : List ℕ) (b : ℕ) → is_among bytes b ≡ true → Contains bytes b
among_contains bytes b is =
    let some = Any-from_list_any (λ one. one == b) bytes is in
    subst (λ (x : ℕ). Contains bytes x) (eqb-true some.1 b some.4) (some.0, some.2, some.3)

pub contains_among : (bytes : List ℕ) (b : ℕ) → Contains bytes b → is_among bytes b ≡ true
contains_among bytes b has = list_any_at (λ one. one == b) bytes has.0 b has.1 (eq-eqb _ _ has.2)

-- of the bytes that pass a test, where it passes
pub is_among-bytes_passing : (f : ℕ → Bool) (b : ℕ) → b < 256 → is_among (bytes_passing f) b ≡ f b
is_among-bytes_passing f b low =
    same_from_decides {P = Contains (bytes_passing f) b} (is_among (bytes_passing f) b) (f b)
    (among_contains (bytes_passing f) b, contains_among (bytes_passing f) b)
    (passing_has f b low, (λ inside. (passing_tells f b inside).1))

other_case-low : (b : ℕ) → b < 256 → other_case b < 256
other_case-low b low = grind (arith, nat_tests)

pub others_of_bits : (bits made : List ℕ) → HasBytes made (λ b. not (has_bit bits b) && not (b == 10)) →
    members_of made ≡ all_others (members_of bits)
unfolding all_others
others_of_bits bits made has =
    bytes_passing_agree (has_bit made) (λ b. not (is_among (members_of bits) b) && not (b == 10))
    (λ b low. has b low ∙ ap (λ v. not v && not (b == 10)) (sym (is_among-bytes_passing (has_bit bits) b low)))

pub cases_of_bits : (bits made : List ℕ) → HasBytes made (λ b. has_bit bits b || has_bit bits (other_case b)) →
    members_of made ≡ both_cases (members_of bits)
unfolding both_cases
cases_of_bits bits made has =
    let one = is_among-bytes_passing (has_bit bits) in
    bytes_passing_agree (has_bit made)
    (λ b. is_among (members_of bits) b || is_among (members_of bits) (other_case b))
    (λ b low. has b low ∙ (λ n. sym (one b low) n || sym (one (other_case b) (other_case-low b low)) n))

-- no byte, and one byte
none_pass : (n : ℕ) → filter (λ b. false) (numbers_below n) ≡ []
unfolding numbers_below
none_pass zero = refl
none_pass (suc n) = rw (filter-append (λ b. false), none_pass n) refl

one_passes : (byte n : ℕ) → byte < n → filter (λ b. b == byte) (numbers_below n) ≡ byte ∷ []
unfolding numbers_below
one_passes byte zero low = absurd (omega arith)
one_passes byte (suc n) low = elim (eqb_tells n byte) [
  | inl (is, same) ↦
      let before : filter (λ b. b == byte) (numbers_below n) ≡ [] =
      filter_below (λ b. b == byte) (λ b. false) n (λ b h. grind (arith, nat_tests)) ∙ none_pass n in
      rw (filter-append (λ b. b == byte), before, is) (ap (λ (x : ℕ). x ∷ []) same)
  | inr (is, other) ↦
      let before : byte < n = omega arith in
      rw (filter-append (λ b. b == byte), one_passes byte n before, is) refl
]

pub none_of_bits : (bits : List ℕ) → HasBytes bits (λ b. false) → members_of bits ≡ []
unfolding bytes_passing
none_of_bits bits has = bytes_passing_agree (has_bit bits) (λ b. false) has ∙ none_pass 256

pub one_of_bits : (bits made : List ℕ) (byte : ℕ) → byte < 256 → HasBytes bits (λ b. false) →
    HasBytes made (λ b. has_bit bits b || b == byte) → members_of made ≡ byte ∷ []
unfolding bytes_passing
one_of_bits bits made byte low none has =
    bytes_passing_agree (has_bit made) (λ b. b == byte) (λ b h. has b h ∙ ap (λ v. v || b == byte) (none b h))
    ∙ one_passes byte 256 low

-- one byte more of those whose other case is looked for
pub closed_with : (f g : ℕ → Bool) (made new : List ℕ) (byte : ℕ) → 65 ≤ byte → g byte ≡ true →
    HasBytes made (λ b. f b || (nat_le 65 b && nat_lt b byte && g b)) →
    HasBytes new (λ b. has_bit made b || b == byte) →
    HasBytes new (λ b. f b || (nat_le 65 b && nat_lt b (byte + 1) && g b))
closed_with f g made new byte letter is known has b low =
    let here : has_bit new b ≡ ((f b || (nat_le 65 b && nat_lt b byte && g b)) || b == byte) =
    has b low ∙ ap (λ v. v || b == byte) (known b low) in
    elim (eqb_tells b byte) [
      | inl (_, same) ↦ let passes : g b ≡ true = ap g same ∙ is in grind (arith, nat_tests)
      | inr (_, other) ↦ grind (arith, nat_tests)
    ]

pub closed_without : (f g : ℕ → Bool) (made : List ℕ) (byte : ℕ) → g byte ≡ false →
    HasBytes made (λ b. f b || (nat_le 65 b && nat_lt b byte && g b)) →
    HasBytes made (λ b. f b || (nat_le 65 b && nat_lt b (byte + 1) && g b))
closed_without f g made byte is known b low =
    let here = known b low in
    elim (eqb_tells b byte) [
      | inl (_, same) ↦ let passes : g b ≡ false = ap g same ∙ is in grind (arith, nat_tests)
      | inr (_, other) ↦ grind (arith, nat_tests)
    ]

-- and all of them: the other case of any other byte is itself
pub closed_all : (f : ℕ → Bool) (b : ℕ) →
    (f b || (nat_le 65 b && nat_lt b 123 && f (other_case b))) ≡ (f b || f (other_case b))
closed_all f b = elim (cases_lt b 65) [
  | inl before ↦
      let same : other_case b ≡ b = grind (arith, nat_tests) in
      rw same (grind (arith, nat_tests))
  | inr after ↦ elim (cases_lt b 123) [
    | inl within ↦ grind (arith, nat_tests)
    | inr past ↦
        let same : other_case b ≡ b = grind (arith, nat_tests) in
        rw same (grind (arith, nat_tests))
  ]
]
