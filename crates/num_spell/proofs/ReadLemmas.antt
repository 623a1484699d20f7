-- What is read is what is spelled: the parts of a spelling are told apart by the bytes in front of them.
-- The test of the digits tells what the relation says (`digits_out`, `digits_in`); a minus and a lead are no digits.
-- The hard ones are `is_spelled` and `spells`, the two ways.
use Rattle.std.proofs.Common.{◌≡◌, ℕ, ◌≤◌, ◌^◌, inl, inr, Bool, true, false, true≢false, ◌&&◌, ◌||◌, ◌==◌, not, IsTrue, List, [], ◌∷◌, ◌++◌, length, drop, Option, Some, None, refl, sym, ap, ◌∙◌, arith, zero, suc, ℤ, if◌then◌else◌, nat_lt, nat_le, max}
use Rattle.std.specs.Prelude.{option_and_then, is_some, IfSome}
use Rattle.std.specs.Str.Parse.{digits_value}
use Rattle.std.specs.Fmt.{sign_text}
use Rattle.std.specs.List.{list_all}
use Rattle.std.proofs.lemmas.Bool.Decides.{nat_tests, eqb_tells}
use Rattle.std.proofs.lemmas.Bool.{eqb-true}
use Rattle.std.proofs.lemmas.Option.{same_Some}
use Rattle.ere_tree.specs.Front.{begins, begins_with}
use Rattle.num_base.specs.Value.{is_value}
use Rattle.num_base.specs.declared.format.Format.{Format}
use Rattle.num_base.specs.declared.format.FormatKind.{FormatKind}
use Rattle.num_base.specs.declared.format.FormatKind.TheVariants.{Unsigned, Signed, LowerHex, UpperHex}
use Rattle.num_spell.specs.Digits.{AreDigits, are_digits, base_of, is_digit_of}
use Rattle.num_spell.specs.Spelling.{Spells, number_of, signed, valued, figured, is_signed, lead, begins_minus, behind_lead, spelled}

-- tests of two parts
pub both_out : (a b : Bool) → (a && b) ≡ true → (a ≡ true) × (b ≡ true)
both_out true b h = (refl, h)
both_out false b h = absurd (true≢false (sym h))

pub both_in : (a b : Bool) → a ≡ true → b ≡ true → (a && b) ≡ true
both_in true b h k = k
both_in false b h k = h

not_both : (a : Bool) → (a && false) ≡ false
not_both true = refl
not_both false = refl

is_none : {A B : Type 0} (x : A) → None ≡ Some x → B
is_none x e = absurd (true≢false (sym (ap is_some e)))

-- a number past 128 bits is no value
large : (negative : Bool) (n : ℕ) → 2 ^ 128 ≤ n → valued (Some (signed negative n)) ≡ None
large true zero h = absurd (omega arith)
large true (suc n) h = grind (arith, nat_tests)
large false n h = grind (arith, nat_tests)

held_none : (n : ℕ) → (if nat_lt n (2 ^ 128) then Some n else None) ≡ None → 2 ^ 128 ≤ n
held_none n h = grind (arith, nat_tests)

held_some : (n m : ℕ) → (if nat_lt n (2 ^ 128) then Some n else None) ≡ Some m → n ≡ m
held_some n m = each (nat_lt n (2 ^ 128))
  where
    each : (b : Bool) → (if b then Some n else None) ≡ Some m → n ≡ m
    each true h = same_Some n m h
    each false h = is_none m h

pub past_is_none : (format : Format) (negative : Bool) (text : List ℕ)
    → are_digits format.kind format.digits text ≡ true → number_of (base_of format.kind) text ≡ None
    → valued (figured format negative text) ≡ None
past_is_none format negative text are past =
    let n : ℕ = digits_value (base_of format.kind) text in
    ap (λ b. valued (if b then Some (signed negative n) else None)) are ∙ large negative n (held_none n past)

pub figured_some : (format : Format) (negative : Bool) (text : List ℕ) (n : ℕ)
    → are_digits format.kind format.digits text ≡ true → number_of (base_of format.kind) text ≡ Some n
    → valued (figured format negative text) ≡ valued (Some (signed negative n))
figured_some format negative text n are is =
    let m : ℕ = digits_value (base_of format.kind) text in
    ap (λ b. valued (if b then Some (signed negative m) else None)) are
    ∙ ap (λ k. valued (Some (signed negative k))) (held_some m n is)

-- the test of digits
digits_out : (kind : FormatKind) (written : ℕ) (digits : List ℕ) → are_digits kind written digits ≡ true
    → AreDigits kind written digits
unfolding begins_with
digits_out kind written digits h = each digits front.1 all.0 all.1
  where
    front : (nat_le (max 1 written) (length digits) && list_all (is_digit_of kind) digits ≡ true)
        × ((written == 0 || length digits == written || not (begins 48 digits)) ≡ true)
    front = both_out _ _ h

    all : (nat_le (max 1 written) (length digits) ≡ true) × (list_all (is_digit_of kind) digits ≡ true)
    all = both_out _ _ front.0

    each : (ds : List ℕ) → (written == 0 || length ds == written || not (begins 48 ds)) ≡ true
        → nat_le (max 1 written) (length ds) ≡ true → list_all (is_digit_of kind) ds ≡ true → AreDigits kind written ds
    each [] zeros long every = let enough : max 1 written ≤ 0 = grind (arith, nat_tests) in absurd (omega arith)
    each (b ∷ ds) zeros long every = record {
      all = every;
      enough = grind (arith, nat_tests);
      no_zero = λ some more. grind (arith, nat_tests);
    }

digits_in : (kind : FormatKind) (written : ℕ) (digits : List ℕ) → AreDigits kind written digits
    → are_digits kind written digits ≡ true
unfolding begins_with
digits_in kind written [] h = absurd (omega (arith, h.enough))
digits_in kind written (b ∷ digits) h =
    both_in _ _ (both_in _ _ (grind (arith, nat_tests, h.enough)) h.all) (grind (arith, nat_tests, h.no_zero))

-- no digit is a minus
digit_no_minus : (kind : FormatKind) (b : ℕ) → is_digit_of kind b ≡ true → (b == 45) ≡ false
digit_no_minus Unsigned b h = grind (arith, nat_tests)
digit_no_minus Signed b h = grind (arith, nat_tests)
digit_no_minus LowerHex b h = grind (arith, nat_tests)
digit_no_minus UpperHex b h = grind (arith, nat_tests)

no_minus : (format : Format) (figures : List ℕ) → AreDigits format.kind format.digits figures
    → begins 45 (lead format.alternate ++ figures) ≡ false
unfolding begins_with
no_minus format figures h = each format.alternate figures (AreDigits.all h) (AreDigits.enough h)
  where
    each : (alternate : Bool) (figures : List ℕ) → list_all (is_digit_of format.kind) figures ≡ true
        → max 1 format.digits ≤ length figures → begins 45 (lead alternate ++ figures) ≡ false
    each true figures all some = refl
    each false [] all some = absurd (omega arith)
    each false (b ∷ figures) all some = digit_no_minus format.kind b (both_out _ _ all).0

lead_in : (alternate : Bool) (figures : List ℕ) → behind_lead alternate (lead alternate ++ figures) ≡ Some figures
unfolding begins_with
lead_in true figures = refl
lead_in false figures = refl

-- what is spelled is read
pub is_spelled : (format : Format) (text : List ℕ) (v : ℤ) → Spells format text v → spelled format text ≡ Some v
unfolding begins_with
is_spelled format text v h =
    each h.negative h.minus h.written h.means
  where
    rest : List ℕ
    rest = lead format.alternate ++ h.figures

    value : ℕ
    value = digits_value (base_of format.kind) h.figures

    read : (negative : Bool) → v ≡ signed negative value
        → option_and_then (figured format negative) (behind_lead format.alternate rest) ≡ Some v
    read negative means =
        ap (option_and_then (figured format negative)) (lead_in format.alternate h.figures)
        ∙ ap (λ b. if b then Some (signed negative value) else None)
        (digits_in format.kind format.digits h.figures h.digits)
        ∙ ap Some (sym means)

    each : (negative : Bool) → (IsTrue negative → IsTrue (is_signed format.kind)) → text ≡ sign_text negative ++ rest
        → v ≡ signed negative value → spelled format text ≡ Some v
    each true minus written means =
        ap (spelled format) written
        ∙ ap (λ m. option_and_then (figured format m) (behind_lead format.alternate (if m then rest else 45 ∷ rest)))
        (both_in (is_signed format.kind) true (minus refl) refl)
        ∙ read true means
    each false minus written means =
        ap (spelled format) written
        ∙ ap (λ m. option_and_then (figured format m) (behind_lead format.alternate (if m then drop 1 rest else rest)))
        (ap (λ b. is_signed format.kind && b) (no_minus format h.figures h.digits) ∙ not_both (is_signed format.kind))
        ∙ read false means

-- the parts of a text that is read
minus_out : (kind : FormatKind) (text : List ℕ) (m : Bool) → begins_minus kind text ≡ m
    → text ≡ sign_text m ++ (if m then drop 1 text else text)
unfolding begins_with
minus_out kind text false h = refl
minus_out kind [] true h = absurd (true≢false (sym h ∙ not_both (is_signed kind)))
minus_out kind (b ∷ text) true h = ap (λ x. x ∷ text) (eqb-true b 45 (both_out _ _ h).1)

lead_out : (alternate : Bool) (rest figures : List ℕ) → behind_lead alternate rest ≡ Some figures
    → rest ≡ lead alternate ++ figures
unfolding begins_with
lead_out false rest figures h = same_Some rest figures h
lead_out true [] figures h = is_none figures h
lead_out true (a ∷ []) figures h =
    is_none figures (sym (ap (λ b. if b then Some [] else None) (not_both (a == 48))) ∙ h)
lead_out true (a ∷ b ∷ rest) figures h = elim (eqb_tells a 48) [
  | inl (s, e) ↦ elim (eqb_tells b 120) [
    | inl (t, f) ↦
        ap (λ x. x ∷ b ∷ rest) e ∙ ap (λ x. 48 ∷ x ∷ rest) f
        ∙ ap (λ r. 48 ∷ 120 ∷ r) (same_Some rest figures (sym (ap (λ c. if c then Some rest else None)
        (both_in _ _ s t)) ∙ h))
    | inr (t, f) ↦
        is_none figures (sym (ap (λ c. if (a == 48) && c then Some rest else None) t
        ∙ ap (λ c. if c then Some rest else None) (not_both (a == 48))) ∙ h)
  ]
  | inr (s, e) ↦ is_none figures (sym (ap (λ c. if c && (b == 120) then Some rest else None) s) ∙ h)
]

figures_out : (format : Format) (m : Bool) (figures : List ℕ) (v : ℤ) → figured format m figures ≡ Some v
    → (are_digits format.kind format.digits figures ≡ true)
    × (v ≡ signed m (digits_value (base_of format.kind) figures))
figures_out format m figures v = each (are_digits format.kind format.digits figures)
  where
    value : ℤ
    value = signed m (digits_value (base_of format.kind) figures)

    each : (b : Bool) → (if b then Some value else None) ≡ Some v → (b ≡ true) × (v ≡ value)
    each true h = (refl, sym (same_Some value v h))
    each false h = is_none v h

-- what is read is spelled
pub spells : (format : Format) (text : List ℕ) (v : ℤ) → spelled format text ≡ Some v → Spells format text v
spells format text v = each (begins_minus format.kind text) refl
  where
    behind : (m : Bool) (figures : List ℕ) → begins_minus format.kind text ≡ m
        → behind_lead format.alternate (if m then drop 1 text else text) ≡ Some figures
        → figured format m figures ≡ Some v → Spells format text v
    behind m figures is front h =
        let parts = figures_out format m figures v h in
        record {
          negative = m;
          figures = figures;
          written = minus_out format.kind text m is
              ∙ ap (λ r. sign_text m ++ r) (lead_out format.alternate _ figures front);
          minus = λ negative. (both_out _ _ (is ∙ negative)).0;
          digits = digits_out format.kind format.digits figures parts.0;
          means = parts.1;
        }

    found : (m : Bool) → begins_minus format.kind text ≡ m → (o : Option (List ℕ))
        → behind_lead format.alternate (if m then drop 1 text else text) ≡ o
        → option_and_then (figured format m) o ≡ Some v → Spells format text v
    found m is None front h = is_none v h
    found m is (Some figures) front h = behind m figures is front h

    each : (m : Bool) → begins_minus format.kind text ≡ m
        → option_and_then (figured format m) (behind_lead format.alternate (if m then drop 1 text else text)) ≡ Some v
        → Spells format text v
    each m is h = found m is _ refl h

-- a value is itself, and what is a value is what was spelled
valued_out : (o : Option ℤ) (v : ℤ) → valued o ≡ Some v → o ≡ Some v
valued_out None v h = h
valued_out (Some z) v h = each (is_value z) h
  where
    each : (b : Bool) → (if b then Some z else None) ≡ Some v → Some z ≡ Some v
    each true h = h
    each false h = is_none v h

pub read_found : (format : Format) (text : List ℕ) (o : Option ℤ) → o ≡ valued (spelled format text)
    → IfSome o (λ v. Spells format text v)
read_found format text None h = tt
read_found format text (Some v) h = spells format text v (valued_out (spelled format text) v (sym h))

pub read_only : (format : Format) (text : List ℕ) (v : ℤ) → Spells format text v → IsTrue (is_value v)
    → valued (spelled format text) ≡ Some v
read_only format text v h is =
    ap valued (is_spelled format text v h) ∙ ap (λ b. if b then Some v else None) is
