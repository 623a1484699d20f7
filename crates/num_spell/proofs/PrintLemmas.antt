-- What is printed is a spelling of the value with the least digits that its format asks for.
-- The digits of a number are of its base and begin with no zero, but those of 0; zeros in front change no value.
-- The hard one is `padded_digits`, that the padded digits are as many as written, and no more than they must be.
use Rattle.std.proofs.Common.{◌≡◌, ◌≢◌, ℕ, ◌+◌, ◌-◌, ◌*◌, ◌<◌, ◌≤◌, ◌/◌, ◌%◌, ◌^◌, suc, zero, Bool, true, false, ◌&&◌, List, [], ◌∷◌, ◌++◌, reverse, refl, sym, ap, ◌∙◌, arith, if◌then◌else◌, ◌==◌, append_assoc, inl, inr, length, length-append, max, true≢false, zero-mul, mul-zero, IsTrue, ℤ, pos, negsuc}
use Rattle.std.specs.Prelude.{replicate, slice_index, unsigned_abs, neg_ℤ}
use lib.Signed.{mag}
use Rattle.std.specs.List.{list_all}
use Rattle.std.proofs.lemmas.List.Folds.{list_all-append}
use Rattle.std.proofs.Math.ListN.{length-replicate}
use Rattle.num_base.specs.declared.format.Format.{Format}
use Rattle.num_spell.specs.Spelling.{Spells, least, padded, printed, can_print, is_negative, is_signed, signed}
use Rattle.std.proofs.Math.Nat.{div-lt_iff_lt-mul, pow-zero, pow-suc}
use Rattle.std.proofs.lemmas.Fmt.{digits_is_IsNumeral}
use Rattle.std.specs.Str.Parse.{digits_value, digits_value_after}
use Rattle.num_base.specs.declared.format.FormatKind.{FormatKind}
use Rattle.num_base.specs.declared.format.FormatKind.TheVariants.{Unsigned, Signed, LowerHex, UpperHex}
use Rattle.num_spell.specs.Digits.{AreDigits, base_of, is_digit_of, is_upper_of}
use Rattle.std.specs.Fmt.{digits, digits_onto, digit_glyph}
use Rattle.std.proofs.lemmas.List.{reverse-append}
use Rattle.std.proofs.lemmas.Bool.Decides.{nat_tests, eqb_tells}

pub begun : (base n : ℕ) (upper : Bool) → digits_onto 64 base upper n (reverse []) ≡ digits base upper n
unfolding digits
begun base n upper = refl

-- a digit of many
pub one_more : (k base n : ℕ) (upper : Bool) (made : List ℕ) → (n / base ≡ 0 → ⊥)
    → digits_onto (suc k) base upper n (reverse made)
    ≡ digits_onto k base upper (n / base) (reverse (made ++ digit_glyph upper (n % base) ∷ []))
one_more k base n upper made more =
    let test : (n / base == 0) ≡ false = grind (arith, nat_tests) in
    rw test (ap (digits_onto k base upper (n / base)) (sym (reverse-append made (digit_glyph upper (n % base) ∷ []))))

-- the last one
pub last_one : (k base n : ℕ) (upper : Bool) (made : List ℕ) → n / base ≡ 0
    → digits_onto (suc k) base upper n (reverse made) ≡ reverse (made ++ digit_glyph upper (n % base) ∷ [])
last_one k base n upper made none =
    let test : (n / base == 0) ≡ true = grind (arith, nat_tests) in
    rw test (sym (reverse-append made (digit_glyph upper (n % base) ∷ [])))

pub one_zero : (out : List ℕ) (count added : ℕ) → added < count
    → (out ++ 48 ∷ []) ++ replicate (count - (added + 1)) 48 ≡ out ++ replicate (count - added) 48
one_zero out count added low =
    let more : count - added ≡ suc (count - (added + 1)) = omega arith in
    rw more (append_assoc out (48 ∷ []) (replicate (count - (added + 1)) 48))

-- digits are of their kind
glyph_of : (kind : FormatKind) (d : ℕ) → d < base_of kind → is_digit_of kind (digit_glyph (is_upper_of kind) d) ≡ true
glyph_of Unsigned d h = grind (arith, nat_tests)
glyph_of Signed d h = grind (arith, nat_tests)
glyph_of LowerHex d h = grind (arith, nat_tests)
glyph_of UpperHex d h = grind (arith, nat_tests)

some_base : (kind : FormatKind) → (10 ≤ base_of kind) × (base_of kind ≤ 16)
some_base Unsigned = (omega arith, omega arith)
some_base Signed = (omega arith, omega arith)
some_base LowerHex = (omega arith, omega arith)
some_base UpperHex = (omega arith, omega arith)

both_in : (a b : Bool) → a ≡ true → b ≡ true → (a && b) ≡ true
both_in true b h k = k
both_in false b h k = h

onto_of : (kind : FormatKind) (k n : ℕ) (acc : List ℕ) → list_all (is_digit_of kind) acc ≡ true
    → list_all (is_digit_of kind) (digits_onto k (base_of kind) (is_upper_of kind) n acc) ≡ true
onto_of kind zero n acc h = h
onto_of kind (suc k) n acc h =
    let low = (some_base kind).0 in
    let here = both_in _ _ (glyph_of kind (n % base_of kind) (omega arith)) h in
    each (n / base_of kind == 0) _ _ here
    (onto_of kind k (n / base_of kind) (digit_glyph (is_upper_of kind) (n % base_of kind) ∷ acc) here)
  where
    each : (b : Bool) (xs ys : List ℕ) → list_all (is_digit_of kind) xs ≡ true → list_all (is_digit_of kind) ys ≡ true
        → list_all (is_digit_of kind) (if b then xs else ys) ≡ true
    each true xs ys p q = p
    each false xs ys p q = q

-- the first of them is no zero, but for the one of 0
no_zero_glyph : (upper : Bool) (d : ℕ) → 0 < d → digit_glyph upper d ≢ 48
no_zero_glyph true d h = grind (arith, nat_tests)
no_zero_glyph false d h = grind (arith, nat_tests)

onto_first : (base : ℕ) (upper : Bool) (k n : ℕ) (acc : List ℕ) → 2 ≤ base → 0 < n → n < base ^ k
    → slice_index (digits_onto k base upper n acc) 0 ≢ 48
onto_first base upper zero n acc low some small = absurd (omega (arith, pow-zero base))
onto_first base upper (suc k) n acc low some small = elim (eqb_tells (n / base) 0) [
  | inl (t, e) ↦
      let product : base * (n / base) ≡ 0 = ap (λ q. base * q) e ∙ mul-zero base in
      let same : n % base ≡ n = omega arith in
      rw t (no_zero_glyph upper (n % base) (omega arith))
  | inr (t, e) ↦
      rw t (onto_first base upper k (n / base) (digit_glyph upper (n % base) ∷ acc) low (omega arith)
      ((div-lt_iff_lt-mul {k = base} {x = n} {y = base ^ k} (omega arith)).1 (omega (arith, small, pow-suc base k))))
]

-- the digits of a number of 128 bits
within : (kind : FormatKind) (n : ℕ) → n < 2 ^ 128 → n < base_of kind ^ 64
within Unsigned n small = omega arith
within Signed n small = omega arith
within LowerHex n small = omega arith
within UpperHex n small = omega arith

digits_of_kind : (kind : FormatKind) (n : ℕ)
    → list_all (is_digit_of kind) (digits (base_of kind) (is_upper_of kind) n) ≡ true
unfolding digits
digits_of_kind kind n = onto_of kind 64 n [] refl

digits_out : (kind : FormatKind) (n : ℕ) → n < 2 ^ 128
    → (0 < length (digits (base_of kind) (is_upper_of kind) n))
    × (digits_value (base_of kind) (digits (base_of kind) (is_upper_of kind) n) ≡ n)
digits_out kind n small =
    let limits = some_base kind in
    let is = digits_is_IsNumeral (base_of kind) (is_upper_of kind) (omega arith) limits.1 n (within kind n small) in
    (is.0.0, is.1)

-- zeros in front
zeros_of : (kind : FormatKind) (k : ℕ) → list_all (is_digit_of kind) (replicate k 48) ≡ true
zeros_of kind zero = refl
zeros_of kind (suc k) = both_in _ _ (zero_of kind) (zeros_of kind k)
  where
    zero_of : (kind : FormatKind) → is_digit_of kind 48 ≡ true
    zero_of Unsigned = refl
    zero_of Signed = refl
    zero_of LowerHex = refl
    zero_of UpperHex = refl

value_behind_zeros : (base k : ℕ) (ds : List ℕ) → digits_value base (replicate k 48 ++ ds) ≡ digits_value base ds
value_behind_zeros base zero ds = refl
value_behind_zeros base (suc k) ds =
    let product : 0 * base ≡ 0 = zero-mul base in
    let none : 0 * base + 0 ≡ 0 = omega arith in
    ap (λ n. digits_value_after base n (replicate k 48 ++ ds)) none ∙ value_behind_zeros base k ds

single : (kind : FormatKind) → digits (base_of kind) (is_upper_of kind) 0 ≡ 48 ∷ []
unfolding digits
single Unsigned = refl
single Signed = refl
single LowerHex = refl
single UpperHex = refl

digits_first : (kind : FormatKind) (n : ℕ) → n < 2 ^ 128 → 1 < length (digits (base_of kind) (is_upper_of kind) n)
    → slice_index (digits (base_of kind) (is_upper_of kind) n) 0 ≢ 48
unfolding digits
digits_first kind zero small long = absurd (omega (arith, ap length (single kind)))
digits_first kind (suc n) small long =
    onto_first (base_of kind) (is_upper_of kind) 64 (suc n) [] (omega (arith, (some_base kind).0)) (omega arith)
    (within kind (suc n) small)

padded_digits : (kind : FormatKind) (written n : ℕ) → n < 2 ^ 128
    → AreDigits kind (max 1 written) (padded kind written n)
padded_digits kind written n small =
    let ds : List ℕ = digits (base_of kind) (is_upper_of kind) n in
    let k : ℕ = written - length ds in
    let long : length (replicate k 48 ++ ds) ≡ k + length ds =
    length-append (replicate k 48) ds ∙ ap (λ m. m + length ds) (length-replicate k 48) in
    let some = (digits_out kind n small).0 in
    record {
      all = list_all-append (is_digit_of kind) (replicate k 48) ds
          ∙ both_in _ _ (zeros_of kind k) (digits_of_kind kind n);
      enough = omega (arith, long, some);
      no_zero = λ asked more.
          let none : k ≡ 0 = omega (arith, long, more) in
          let first = digits_first kind n small (omega (arith, long, more)) in
          rw none first;
    }

padded_value : (kind : FormatKind) (written n : ℕ) → n < 2 ^ 128
    → digits_value (base_of kind) (padded kind written n) ≡ n
padded_value kind written n small =
    let ds : List ℕ = digits (base_of kind) (is_upper_of kind) n in
    value_behind_zeros (base_of kind) (written - length ds) ds ∙ (digits_out kind n small).1

-- what is printed is spelled with the least digits
pub print_spells : (format : Format) (value : ℤ) → can_print format value ≡ true → mag value < 2 ^ 127
    → Spells (least format) (printed format value) value
print_spells format value can small = record {
  negative = is_negative value;
  figures = padded format.kind format.digits (unsigned_abs value);
  written = refl;
  minus = signed_out value can;
  digits = padded_digits format.kind format.digits (unsigned_abs value) (below value small);
  means = means value (padded_value format.kind format.digits (unsigned_abs value) (below value small));
}
  where
    signed_out : (value : ℤ) → can_print format value ≡ true → IsTrue (is_negative value)
        → IsTrue (is_signed format.kind)
    signed_out (pos n) can is = absurd (true≢false (sym is))
    signed_out (negsuc n) can is = can

    below : (value : ℤ) → mag value < 2 ^ 127 → unsigned_abs value < 2 ^ 128
    below (pos n) small = omega arith
    below (negsuc n) small = omega arith

    means : (value : ℤ) {n : ℕ} → n ≡ unsigned_abs value → value ≡ signed (is_negative value) n
    means (pos n) e = ap pos (sym e)
    means (negsuc n) e = ap (λ m. neg_ℤ (pos m)) (sym e)
