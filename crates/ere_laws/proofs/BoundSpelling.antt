-- Bounds: what is read is spelled, and what is spelled is read.
-- Digits come first: how many there are, and their number, by induction over them; then a case for each form in braces.
-- `braced_read` is the long one: it takes apart what was read at each byte where the reader chose.
use Rattle.std.proofs.Common.{◌≡◌, ℕ, ◌+◌, ◌-◌, ◌*◌, ◌^◌, ◌<◌, ◌≤◌, true, false, ◌&&◌, ◌==◌, inl, inr, codes, List, [], ◌∷◌, ◌++◌, Option, Some, None, length, take, drop, nat_le, refl, sym, ap, subst, ◌∙◌, arith, append_assoc, length-append}
use Rattle.std.proofs.Math.Nat.{add-mul, pow-suc}
use Rattle.std.proofs.lemmas.Bool.Decides.{nat_tests}
use Rattle.std.proofs.lemmas.Bool.{and_parts, eqb-true, leb-true, le-leb}
use Rattle.std.proofs.lemmas.List.{take-append-drop, take_at, drop_at, length-take-le}
use Rattle.std.proofs.lemmas.List.Sums.{prefix_len-le-length}
use Rattle.std.specs.List.{list_all}
use Rattle.ere_tree.specs.Bound.{digit_count, number_from, number_at, at_least as at_least_at, between as between_at, behind_comma, braced, bound_at, begins_bound}
use Rattle.ere_tree.specs.Class.{is_digit}
use Rattle.ere_tree.specs.Front.{begins_with, starts}
use Rattle.ere_laws.specs.Spelling.{IsCount, IsGood, Repeats, at_least, between, exactly, least_of, mark, most_of, plus, spelled, star, value}
use Rattle.ere_laws.proofs.FrontSpelling.{begins_from, chosen, if_some, run_ends, run_passes, run_some, some_is}

-- the number of digits is their value, behind those that were read
value_behind : (n : ℕ) (digits : List ℕ) → number_from n digits ≡ n * 10 ^ length digits + value digits
unfolding number_from
value_behind n [] = omega arith
value_behind n (digit ∷ digits) =
    let power : ℕ = 10 ^ length digits in
    value_behind (n * 10 + (digit - 48)) digits
    ∙ ap (λ m. m + value digits) (add-mul (n * 10) (digit - 48) power)
    ∙ regroup n power ((digit - 48) * power) (value digits)
    ∙ ap (λ m. n * m + ((digit - 48) * power + value digits)) (sym (pow-suc 10 (length digits)))
  where
    regroup : (n p x y : ℕ) → n * 10 * p + x + y ≡ n * (p * 10) + (x + y)
    regroup n p x y = grind arith

-- digits with none behind them are counted, and their number is their value
abbrev NumberAt : List ℕ → List ℕ → Type 0
NumberAt digits rest =
    (digit_count (digits ++ rest) ≡ length digits) × (number_at (digits ++ rest) ≡ value digits)

number_of : (digits rest : List ℕ) → IsCount digits → begins_with is_digit rest ≡ false → NumberAt digits rest
unfolding number_at
number_of digits rest count none =
    let counted : digit_count (digits ++ rest) ≡ length digits = run_ends is_digit digits rest count.1 none in
    (counted, rw (counted, take_at digits rest (length digits) refl) (value_behind 0 digits ∙ omega arith))

-- digits at the front of a text
pub record Counted (text : List ℕ) : Type 0 where
  digits : List ℕ
  rest : List ℕ
  count : IsCount digits
  is : text ≡ digits ++ rest
  behind : drop (digit_count text) text ≡ rest
  long : digit_count text ≡ length digits
  number : number_at text ≡ value digits

counted : (text : List ℕ) → begins_with is_digit text ≡ true → Counted text
unfolding number_at
counted text begins =
    let count : ℕ = digit_count text in
    let digits : List ℕ = take count text in
    let long : length digits ≡ count = length-take-le count text (prefix_len-le-length is_digit text) in
    let some : 0 < count = run_some is_digit text begins in
    record {
      digits = digits;
      rest = drop count text;
      count = (omega arith, run_passes is_digit text);
      is = sym (take-append-drop count text);
      behind = refl;
      long = sym long;
      number = value_behind 0 digits ∙ omega arith;
    }

-- bounds in braces, and how long they are
exactly_is : (digits rest : List ℕ) → spelled (exactly digits) ++ rest ≡ 123 ∷ (digits ++ 125 ∷ rest)
exactly_is digits rest = simp append_assoc

at_least_is : (digits rest : List ℕ) → spelled (at_least digits) ++ rest ≡ 123 ∷ (digits ++ 44 ∷ 125 ∷ rest)
at_least_is digits rest = simp append_assoc

between_is : (least most rest : List ℕ)
    → spelled (between least most) ++ rest ≡ 123 ∷ (least ++ 44 ∷ (most ++ 125 ∷ rest))
between_is least most rest = simp append_assoc

exactly_long : (digits : List ℕ) → length (spelled (exactly digits)) ≡ length digits + 2
exactly_long digits = simp length-append (omega arith)

at_least_long : (digits : List ℕ) → length (spelled (at_least digits)) ≡ length digits + 3
at_least_long digits = simp length-append (omega arith)

between_long : (least most : List ℕ) → length (spelled (between least most)) ≡ length least + length most + 3
between_long least most = simp length-append (omega arith)

-- a bound that was read, so many bytes of the text
pub record BoundRead (text : List ℕ) (least : ℕ) (most : Option ℕ) (count : ℕ) : Type 0 where
  pub one : Repeats
  pub good : IsGood one
  pub least_is : least ≡ least_of one
  pub most_is : most ≡ most_of one
  pub rest : List ℕ
  pub is : text ≡ spelled one ++ rest
  pub long : count ≡ length (spelled one)

exactly_read : (text : List ℕ) (c : Counted text) (taken : ℕ) (found : _) → taken ≡ digit_count text + 2
    → starts (codes "}") c.rest ≡ true → between_at (number_at text) (number_at text) taken ≡ Some found
    → BoundRead (123 ∷ text) found.0.least found.0.most found.1
exactly_read text c taken found so ends is =
    let test = if_some (nat_le (number_at text) (number_at text) && nat_le (number_at text) 255) _ _ is in
    let low = leb-true (number_at text) 255 (and_parts (nat_le (number_at text) (number_at text)) _ test.0).1 in
    let behind = begins_from (codes "}") c.rest ends in
    subst (λ f. BoundRead (123 ∷ text) f.0.least f.0.most f.1) test.1 (record {
      one = exactly c.digits;
      good = (c.count, omega (arith, c.number, low));
      least_is = c.number;
      most_is = ap Some c.number;
      rest = behind.0;
      is = ap (λ t. 123 ∷ t) (c.is ∙ ap (λ t. c.digits ++ t) behind.1) ∙ sym (exactly_is c.digits behind.0);
      long = omega (arith, c.long, exactly_long c.digits);
    })

at_least_read : (text rest : List ℕ) (c : Counted text) (taken : ℕ) (found : _) → taken ≡ digit_count text + 3
    → c.rest ≡ 44 ∷ rest → starts (codes "}") rest ≡ true → at_least_at (number_at text) taken ≡ Some found
    → BoundRead (123 ∷ text) found.0.least found.0.most found.1
at_least_read text rest c taken found so comma ends is =
    let test = if_some (nat_le (number_at text) 255) _ _ is in
    let low = leb-true (number_at text) 255 test.0 in
    let behind = begins_from (codes "}") rest ends in
    subst (λ f. BoundRead (123 ∷ text) f.0.least f.0.most f.1) test.1 (record {
      one = at_least c.digits;
      good = (c.count, omega (arith, c.number, low));
      least_is = c.number;
      most_is = refl;
      rest = behind.0;
      is = ap (λ t. 123 ∷ t) (c.is ∙ ap (λ t. c.digits ++ t) (comma ∙ ap (λ t. 44 ∷ t) behind.1))
          ∙ sym (at_least_is c.digits behind.0);
      long = omega (arith, c.long, at_least_long c.digits);
    })

between_read : (text rest : List ℕ) (c : Counted text) (d : Counted rest) (taken : ℕ) (found : _)
    → taken ≡ digit_count text + 2 + digit_count rest + 1 → c.rest ≡ 44 ∷ rest → starts (codes "}") d.rest ≡ true
    → between_at (number_at text) (number_at rest) taken ≡ Some found
    → BoundRead (123 ∷ text) found.0.least found.0.most found.1
between_read text rest c d taken found so comma ends is =
    let test = if_some (nat_le (number_at text) (number_at rest) && nat_le (number_at rest) 255) _ _ is in
    let parts = and_parts (nat_le (number_at text) (number_at rest)) _ test.0 in
    let order = leb-true (number_at text) (number_at rest) parts.0 in
    let low = leb-true (number_at rest) 255 parts.1 in
    let behind = begins_from (codes "}") d.rest ends in
    subst (λ f. BoundRead (123 ∷ text) f.0.least f.0.most f.1) test.1 (record {
      one = between c.digits d.digits;
      good = (c.count, d.count, omega (arith, c.number, d.number, order), omega (arith, d.number, low));
      least_is = c.number;
      most_is = ap Some d.number;
      rest = behind.0;
      is = ap (λ t. 123 ∷ t) (c.is ∙ ap (λ t. c.digits ++ t)
          (comma ∙ ap (λ t. 44 ∷ t) (d.is ∙ ap (λ t. d.digits ++ t) behind.1)))
          ∙ sym (between_is c.digits d.digits behind.0);
      long = omega (arith, c.long, d.long, between_long c.digits d.digits);
    })

comma_read : (text rest : List ℕ) (c : Counted text) (taken : ℕ) (found : _) → taken ≡ digit_count text + 2
    → c.rest ≡ 44 ∷ rest → behind_comma (number_at text) taken rest ≡ Some found
    → BoundRead (123 ∷ text) found.0.least found.0.most found.1
comma_read text rest c taken found so comma is = elim (chosen (starts (codes "}") rest) _ _ _ is) [
  | inl (ends, is) ↦ at_least_read text rest c (taken + 1) found (omega arith) comma ends is
  | inr (other, is) ↦ elim (chosen (begins_with is_digit rest && starts (codes "}") (drop (digit_count rest) rest)) _ _ _ is) [
    | inl (both, is) ↦
        let parts = and_parts (begins_with is_digit rest) _ both in
        let d = counted rest parts.0 in
        between_read text rest c d (taken + digit_count rest + 1) found (omega arith) comma
        (ap (starts (codes "}")) (sym d.behind) ∙ parts.1) is
    | inr (none, is) ↦ cc
  ]
]

braced_read : (text : List ℕ) (found : _) → begins_with is_digit text ≡ true → braced text ≡ Some found
    → BoundRead (123 ∷ text) found.0.least found.0.most found.1
unfolding braced
braced_read text found begins is =
    let c = counted text begins in
    elim (chosen (starts (codes "}") (drop (digit_count text) text)) _ _ _ is) [
      | inl (ends, is) ↦ exactly_read text c (digit_count text + 2) found refl
          (ap (starts (codes "}")) (sym c.behind) ∙ ends) is
      | inr (other, is) ↦ elim (chosen (starts (codes ",") (drop (digit_count text) text)) _ _ _ is) [
        | inl (comma, is) ↦
            let behind = begins_from (codes ",") (drop (digit_count text) text) comma in
            comma_read text behind.0 c (digit_count text + 2) found refl (sym c.behind ∙ behind.1)
            (ap (λ t. behind_comma (number_at text) (digit_count text + 2) (drop 1 t)) (sym behind.1) ∙ is)
        | inr (none, is) ↦ cc
      ]
    ]

begins_digits : (digits rest : List ℕ) → IsCount digits → begins_with is_digit (digits ++ rest) ≡ true
unfolding begins_with
begins_digits [] rest count = absurd (omega (arith, count.0))
begins_digits (d ∷ digits) rest count = (and_parts (is_digit d) (list_all is_digit digits) count.1).0

no_close : (digits rest : List ℕ) → IsCount digits → starts (codes "}") (digits ++ rest) ≡ false
unfolding begins_with
no_close [] rest count = absurd (omega (arith, count.0))
no_close (d ∷ digits) rest count =
    let is : is_digit d ≡ true = (and_parts (is_digit d) (list_all is_digit digits) count.1).0 in
    grind (arith, nat_tests)

no_digit : (b : ℕ) (rest : List ℕ) → is_digit b ≡ false → begins_with is_digit (b ∷ rest) ≡ false
unfolding begins_with
no_digit b rest none = none

braced_exactly : (digits rest : List ℕ) → IsCount digits → value digits ≤ 255
    → braced (digits ++ 125 ∷ rest) ≡ Some (record { least = value digits; most = Some (value digits) }, length digits + 2)
unfolding braced begins_with
braced_exactly digits rest count low =
    let n = number_of digits (125 ∷ rest) count (no_digit 125 rest refl) in
    rw (
      n.0,
      n.1,
      drop_at digits (125 ∷ rest) (length digits) refl,
      le-leb (value digits) (value digits) (omega arith),
      le-leb (value digits) 255 low,
    ) refl

braced_at_least : (digits rest : List ℕ) → IsCount digits → value digits ≤ 255
    → braced (digits ++ 44 ∷ 125 ∷ rest) ≡ Some (record { least = value digits; most = None }, length digits + 2 + 1)
unfolding braced begins_with
braced_at_least digits rest count low =
    let n = number_of digits (44 ∷ 125 ∷ rest) count (no_digit 44 (125 ∷ rest) refl) in
    rw (n.0, n.1, drop_at digits (44 ∷ 125 ∷ rest) (length digits) refl, le-leb (value digits) 255 low) refl

braced_between : (least most rest : List ℕ) → IsCount least → IsCount most → value least ≤ value most
    → value most ≤ 255 → braced (least ++ 44 ∷ (most ++ 125 ∷ rest))
    ≡ Some (record { least = value least; most = Some (value most) }, length least + 2 + length most + 1)
unfolding braced begins_with
braced_between least most rest count second order low =
    let n = number_of least (44 ∷ (most ++ 125 ∷ rest)) count (no_digit 44 (most ++ 125 ∷ rest) refl) in
    let m = number_of most (125 ∷ rest) second (no_digit 125 rest refl) in
    rw (
      n.0,
      n.1,
      drop_at least (44 ∷ (most ++ 125 ∷ rest)) (length least) refl,
      no_close most (125 ∷ rest) second,
      begins_digits most (125 ∷ rest) second,
      m.0,
      drop_at most (125 ∷ rest) (length most) refl,
      m.1,
      le-leb (value least) (value most) order,
      le-leb (value most) 255 low,
    ) refl

pub bound_spelled : (one : Repeats) (rest : List ℕ) → IsGood one
    → bound_at (spelled one ++ rest) ≡ Some (record { least = least_of one; most = most_of one }, length (spelled one))
unfolding bound_at begins_bound begins_with
bound_spelled star rest good = refl
bound_spelled plus rest good = refl
bound_spelled mark rest good = refl
bound_spelled (exactly digits) rest (count, low) =
    ap bound_at (exactly_is digits rest)
    ∙ rw (begins_digits digits (125 ∷ rest) count) (braced_exactly digits rest count low)
    ∙ ap (λ n. Some (record { least = value digits; most = Some (value digits) }, n)) (sym (exactly_long digits))
bound_spelled (at_least digits) rest (count, low) =
    let long : length digits + 2 + 1 ≡ length (spelled (at_least digits)) = omega (arith, at_least_long digits) in
    ap bound_at (at_least_is digits rest)
    ∙ rw (begins_digits digits (44 ∷ 125 ∷ rest) count) (braced_at_least digits rest count low)
    ∙ ap (λ n. Some (record { least = value digits; most = None }, n)) long
bound_spelled (between least most) rest (count, second, order, low) =
    let long : length least + 2 + length most + 1 ≡ length (spelled (between least most)) =
    omega (arith, between_long least most) in
    ap bound_at (between_is least most rest)
    ∙ rw (begins_digits least (44 ∷ (most ++ 125 ∷ rest)) count) (braced_between least most rest count second order low)
    ∙ ap (λ n. Some (record { least = value least; most = Some (value most) }, n)) long

simple_read : (one : Repeats) (b : ℕ) (text : List ℕ) (found : _) → bound_at (b ∷ text) ≡ Some found → IsGood one
    → spelled one ≡ b ∷ [] → BoundRead (b ∷ text) found.0.least found.0.most found.1
simple_read one b text found is good same =
    subst (λ f. BoundRead (b ∷ text) f.0.least f.0.most f.1)
    (some_is _ _ (sym (bound_spelled one text good) ∙ ap (λ front. bound_at (front ++ text)) same ∙ is)) (record {
      one = one;
      good = good;
      least_is = refl;
      most_is = refl;
      rest = text;
      is = ap (λ t. t ++ text) (sym same);
      long = refl;
    })

pub bound_read : (text : List ℕ) (found : _) → bound_at text ≡ Some found
    → BoundRead text found.0.least found.0.most found.1
unfolding bound_at begins_bound begins_with
bound_read [] found is = cc
bound_read (b ∷ text) found read = elim (chosen (b == 42) _ _ _ read) [
  | inl (same, is) ↦ simple_read star b text found read tt (ap (λ c. c ∷ []) (sym (eqb-true b 42 same)))
  | inr (a, is) ↦ elim (chosen (b == 43) _ _ _ is) [
    | inl (same, is) ↦ simple_read plus b text found read tt (ap (λ c. c ∷ []) (sym (eqb-true b 43 same)))
    | inr (o, is) ↦ elim (chosen (b == 63) _ _ _ is) [
      | inl (same, is) ↦ simple_read mark b text found read tt (ap (λ c. c ∷ []) (sym (eqb-true b 63 same)))
      | inr (m, is) ↦ elim (chosen (begins_bound (b ∷ text)) _ _ _ is) [
        | inl (begins, is) ↦
            let both : ((b == 123) && begins_with is_digit text) ≡ true = rw (a, o, m) at begins in
            let parts = and_parts (b == 123) (begins_with is_digit text) both in
            subst (λ c. BoundRead (c ∷ text) found.0.least found.0.most found.1) (sym (eqb-true b 123 parts.0))
            (braced_read text found parts.1 is)
        | inr (none, is) ↦ cc
      ]
    ]
  ]
]
