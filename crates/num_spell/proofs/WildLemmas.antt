-- The expression of a format matches just the spellings: its parts are taken apart one by one, each a part of the text,
-- and made again from the parts of a spelling. `figures_out` and `figures_in` are the long ones: digits, where more
-- stand there than the format asks for.
use Rattle.std.proofs.Common.{◌≡◌, ◌≢◌, ℕ, ◌+◌, ◌-◌, ◌<◌, ◌≤◌, zero, suc, Bool, true, false, true≢false, ◌&&◌, ◌||◌, ◌==◌, not, IsTrue, List, [], ◌∷◌, ◌++◌, length, take, drop, get_or, Some, None, codes, inl, inr, refl, sym, ap, ◌∙◌, subst, arith, nat_le, length-drop, length-append, ℤ}
use Rattle.std.specs.Prelude.{slice_index}
use Rattle.std.specs.Fmt.{sign_text}
use Rattle.std.specs.Int.{is_in_range}
use Rattle.std.specs.List.{list_all}
use Rattle.std.proofs.lemmas.Bool.{cases_order, cases_lt}
use Rattle.std.proofs.lemmas.Bool.Decides.{nat_tests}
use Rattle.std.proofs.lemmas.List.{drop-drop, get_or-drop, take-append-drop}
use Rattle.std.proofs.Math.Seq.{drop-append_seam}
use Rattle.std.specs.FinMap.{empty, insert}
use Rattle.std.specs.Str.Parse.{digits_value}
use Rattle.ere_tree.specs.Bytes.{HasBytes}
use Rattle.ere_tree.specs.Class.{is_digit}
use Rattle.ere_tree.specs.Captures.{Captures}
use Rattle.ere_tree.specs.Derivation.{Way, Ways, leaf, parts, members, inside, done, next, Derives, DerivesAll, Spans, part}
use Rattle.ere_tree.specs.Grammar.{branch_of}
use Rattle.ere_tree.specs.Tree.{Tree, plain, set, cat, repeat, none, then, trees_of}
use Rattle.ere_tree.specs.View.{has_bit, members_of}
use Rattle.ere_tree.proofs.DerivationLemmas.{is_part}
use Rattle.ere_tree.proofs.PartsLemmas.{AllIn, all_out, none_out, two_out, two_in, group_out, maybe_out, plain_out, set_out, sets_out, sets_in}
use Rattle.ere_tree.proofs.SetLemmas.{bytes_passing_agree, passing_tells, passing_has}
use Rattle.num_base.specs.declared.format.Format.{Format}
use Rattle.num_base.specs.declared.format.FormatKind.{FormatKind}
use Rattle.num_base.specs.declared.format.FormatKind.TheVariants.{Unsigned, Signed, LowerHex, UpperHex}
use Rattle.num_spell.specs.Digits.{AreDigits, base_of, is_digit_of}
use Rattle.num_spell.specs.Spelling.{Spells, is_signed, lead, signed}
use Rattle.num_spell.specs.Wild.{MatchesSpelled, digit_parts, digit_set, lead_parts, leading_set, is_leading_of, more_digits, sign_parts, wild, wild_parts}
use Rattle.num_spell.proofs.ReadLemmas.{both_in, both_out}

-- SETS OF DIGITS

-- the bytes that the code puts into a set, one range behind the other
pub decimal_from : (first b : ℕ) → 48 ≤ first → first ≤ 57
    → (false || is_in_range first 57 b) ≡ (is_digit b && nat_le first b)
decimal_from first b low high = grind (arith, nat_tests)

pub hex_from : (first a b : ℕ) → 48 ≤ first → first ≤ 57 → 65 ≤ a
    → ((false || is_in_range first 57 b) || is_in_range a (a + 5) b)
    ≡ ((is_digit b || is_in_range a (a + 5) b) && nat_le first b)
hex_from first a b low high above = grind (arith, nat_tests)

-- the digits from zero on are all, and those from one on are the others
pub all_digits : (kind : FormatKind) (bits : List ℕ) → HasBytes bits (λ b. is_digit_of kind b && nat_le 48 b)
    → members_of bits ≡ digit_set kind
all_digits kind bits has =
    bytes_passing_agree (has_bit bits) (is_digit_of kind) (λ b low. has b low ∙ each kind b)
  where
    each : (kind : FormatKind) (b : ℕ) → (is_digit_of kind b && nat_le 48 b) ≡ is_digit_of kind b
    each Unsigned b = grind (arith, nat_tests)
    each Signed b = grind (arith, nat_tests)
    each LowerHex b = grind (arith, nat_tests)
    each UpperHex b = grind (arith, nat_tests)

pub leading_digits : (kind : FormatKind) (bits : List ℕ) → HasBytes bits (λ b. is_digit_of kind b && nat_le 49 b)
    → members_of bits ≡ leading_set kind
leading_digits kind bits has =
    bytes_passing_agree (has_bit bits) (is_leading_of kind) (λ b low. has b low ∙ each kind b)
  where
    each : (kind : FormatKind) (b : ℕ) → (is_digit_of kind b && nat_le 49 b) ≡ is_leading_of kind b
    each Unsigned b = grind (arith, nat_tests)
    each Signed b = grind (arith, nat_tests)
    each LowerHex b = grind (arith, nat_tests)
    each UpperHex b = grind (arith, nat_tests)

-- A TEST OF EACH BYTE

each_passes : (test : ℕ → Bool) (xs : List ℕ) → ((n : ℕ) → n < length xs → test (get_or xs n 0) ≡ true)
    → list_all test xs ≡ true
each_passes test [] h = refl
each_passes test (x ∷ xs) h =
    both_in (test x) (list_all test xs) (h 0 (omega arith)) (each_passes test xs (λ n low. h (suc n) (omega arith)))

passes_at : (test : ℕ → Bool) (xs : List ℕ) (n : ℕ) → list_all test xs ≡ true → n < length xs
    → test (get_or xs n 0) ≡ true
passes_at test [] n all low = absurd (omega arith)
passes_at test (x ∷ xs) zero all low = (both_out (test x) (list_all test xs) all).0
passes_at test (x ∷ xs) (suc n) all low = passes_at test xs n (both_out (test x) (list_all test xs) all).1 (omega arith)

first_at : (s : List ℕ) (i : ℕ) → slice_index (drop i s) 0 ≡ slice_index s i
first_at s i = get_or-drop i s 0 0 ∙ ap (λ n. slice_index s n) (omega arith)

-- the bytes from a place on
rest_passes : (test : ℕ → Bool) (s : List ℕ) (i : ℕ)
    → ((n : ℕ) → i ≤ n → n < length s → test (slice_index s n) ≡ true) → list_all test (drop i s) ≡ true
rest_passes test s i h = each_passes test (drop i s) (λ n low.
    ap test (get_or-drop i s n 0) ∙ h (i + n) (omega arith) (omega (arith, low, length-drop i s)))

rest_at : (test : ℕ → Bool) (s : List ℕ) (i n : ℕ) → list_all test (drop i s) ≡ true → i ≤ n → n < length s
    → test (slice_index s n) ≡ true
rest_at test s i n all low high =
    let same : i + (n - i) ≡ n = omega arith in
    ap (λ m. test (slice_index s m)) (sym same) ∙ ap test (sym (get_or-drop i s (n - i) 0))
    ∙ passes_at test (drop i s) (n - i) all (omega (arith, length-drop i s))

small_digit : (kind : FormatKind) (b : ℕ) → is_digit_of kind b ≡ true → b < 256
small_digit Unsigned b h = grind (arith, nat_tests)
small_digit Signed b h = grind (arith, nat_tests)
small_digit LowerHex b h = grind (arith, nat_tests)
small_digit UpperHex b h = grind (arith, nat_tests)

leading_out : (kind : FormatKind) (b : ℕ) → is_leading_of kind b ≡ true → (is_digit_of kind b ≡ true) × (b ≢ 48)
leading_out kind b h =
    let two = both_out (is_digit_of kind b) (not (b == 48)) h in (two.0, λ e. grind (arith, nat_tests))

leading_in : (kind : FormatKind) (b : ℕ) → is_digit_of kind b ≡ true → b ≢ 48 → is_leading_of kind b ≡ true
leading_in kind b h n = both_in (is_digit_of kind b) (not (b == 48)) h (grind (arith, nat_tests))

-- the digits from a place on, as a set
digits_from : (kind : FormatKind) (s : List ℕ) (i k : ℕ) → list_all (is_digit_of kind) (drop i s) ≡ true → i ≤ k
    → AllIn (digit_set kind) s k (length s)
digits_from kind s i k all from n low high =
    let is = rest_at (is_digit_of kind) s i n all (omega arith) high in
    passing_has (is_digit_of kind) (slice_index s n) (small_digit kind (slice_index s n) is) is

-- THE DIGITS

figures_out : (kind : FormatKind) (written : ℕ) (s : List ℕ) (ws : Ways) (i : ℕ) (c d : Captures)
    → DerivesAll s (trees_of (digit_parts kind written)) ws i (length s) c d → AreDigits kind written (drop i s)
figures_out kind zero s ws i c d h =
    let first = all_out s (repeat (set (digit_set kind)) 1 None) none ws i (length s) c d h in
    let end = none_out s first.3 first.0 (length s) first.1 d first.5 in
    let r = sets_out s (digit_set kind) 1 None first.2 i first.0 c first.1 first.4 in
    record {
      all = rest_passes (is_digit_of kind) s i (λ n low high.
          (passing_tells (is_digit_of kind) (slice_index s n) (r.2 n low (omega (arith, end.0)))).1);
      enough = omega (arith, length-drop i s, r.0.0, end.0, r.1.0);
      no_zero = λ some more. absurd (omega arith);
    }
figures_out kind (suc p) s ws i c d h =
    let more = repeat (more_digits kind) 0 (Some 1) in
    let asked = repeat (set (digit_set kind)) (suc p) (Some (suc p)) in
    let first = all_out s more (then asked none) ws i (length s) c d h in
    let k = first.0 in
    let last = all_out s asked none first.3 k (length s) first.1 d first.5 in
    let end = none_out s last.3 last.0 (length s) last.1 d last.5 in
    let r = sets_out s (digit_set kind) (suc p) (Some (suc p)) last.2 k last.0 first.1 last.1 last.4 in
    let digit = λ (n : ℕ) (low : k ≤ n) (high : n < length s).
    (passing_tells (is_digit_of kind) (slice_index s n) (r.2 n low (omega (arith, end.0)))).1 in
    elim (maybe_out s (more_digits kind) first.2 i k c first.1 first.4) [
      | inl same ↦ record {
        all = rest_passes (is_digit_of kind) s i (λ n low high. digit n (omega (arith, same.0)) high);
        enough = omega (arith, length-drop i s, r.0.0, r.1.0, end.0, same.0);
        no_zero = λ some many. absurd (omega (arith, length-drop i s, r.0.1, r.1.0, end.0, same.0, many));
      }
      | inr m ↦
          let g = group_out s 1 (cat (then (set (leading_set kind)) (then (repeat (set (digit_set kind)) 0 None) none)))
          m.1 i k c first.1 m.2 in
          let two = two_out s (set (leading_set kind)) (repeat (set (digit_set kind)) 0 None) g.0 i k c g.1 g.2 in
          let one = set_out s (leading_set kind) two.2 i two.0 c two.1 two.4 in
          let t = sets_out s (digit_set kind) 0 None two.3 two.0 k two.1 g.1 two.5 in
          let leads = leading_out kind (slice_index s i)
          (passing_tells (is_leading_of kind) (slice_index s i) one.2).1 in
          record {
            all = rest_passes (is_digit_of kind) s i (λ n low high. elim (cases_order i n) [
              | inl same ↦ subst (λ q. is_digit_of kind (slice_index s q) ≡ true) same leads.0
              | inr other ↦ elim (cases_lt n k) [
                | inl before ↦
                    (passing_tells (is_digit_of kind) (slice_index s n) (t.2 n (omega (arith, one.0)) before)).1
                | inr after ↦ digit n after high
              ]
            ]);
            enough = omega (arith, length-drop i s, r.0.0, r.1.0, end.0, m.0);
            no_zero = λ some many. subst (λ b. b ≢ 48) (sym (first_at s i)) leads.1;
          }
    ]

figures_in : (kind : FormatKind) (written : ℕ) (s : List ℕ) (i : ℕ) (c : Captures) → i ≤ length s
    → AreDigits kind written (drop i s)
    → (ws : Ways) × (d : Captures) × DerivesAll s (trees_of (digit_parts kind written)) ws i (length s) c d
figures_in kind zero s i c low h =
    let long = length-drop i s in
    let r = sets_in s (digit_set kind) 1 None i (length s) c (omega (arith, h.enough, long), tt)
    (omega arith, omega arith) (digits_from kind s i i h.all (omega arith)) in
    (next (length s) r.0 done, c, (c, r.1, (refl, omega arith, refl)))
figures_in kind (suc p) s i c low h =
    let long = length-drop i s in
    elim (cases_order (i + suc p) (length s)) [
      | inl same ↦
          let r = sets_in s (digit_set kind) (suc p) (Some (suc p)) i (length s) c
          (omega (arith, same), omega (arith, same)) (omega arith, omega arith)
          (digits_from kind s i i h.all (omega arith)) in (
            next i (members done) (next (length s) r.0 done),
            c,
            (c, ((omega arith, omega arith), (refl, low, refl)), (c, r.1, (refl, omega arith, refl))),
          )
      | inr other ↦ elim other [
        | inl more ↦
            let k : ℕ = length s - suc p in
            let first : is_digit_of kind (slice_index s i) ≡ true =
            rest_at (is_digit_of kind) s i i h.all (omega arith) (omega arith) in
            let leads : is_leading_of kind (slice_index s i) ≡ true =
            leading_in kind (slice_index s i) first
            (subst (λ b. b ≢ 48) (first_at s i) (h.no_zero (omega arith) (omega (arith, long, more)))) in
            let inner = sets_in s (digit_set kind) 0 None (i + 1) k c (omega arith, tt) (omega arith, omega arith)
            (λ n a b. digits_from kind s i (i + 1) h.all (omega arith) n a (omega arith)) in
            let two = two_in s (set (leading_set kind)) (repeat (set (digit_set kind)) 0 None) leaf inner.0 i (i + 1) k
            c c c (
              refl,
              omega arith,
              passing_has (is_leading_of kind) (slice_index s i) (small_digit kind (slice_index s i) first) leads,
              refl,
            ) inner.1 in
            let e : Captures = insert c 1 (i, k) in
            let asked = sets_in s (digit_set kind) (suc p) (Some (suc p)) k (length s) e
            (omega arith, omega arith) (omega arith, omega arith) (digits_from kind s i k h.all (omega arith)) in (
              next k (members (next k (inside (parts (next (i + 1) leaf (next k inner.0 done)))) done))
                  (next (length s) asked.0 done),
              e,
              (
                e,
                (
                  (omega arith, omega arith),
                  (e, (c, two, refl), omega arith, (refl, omega arith, refl)),
                ),
                (e, asked.1, (refl, omega arith, refl)),
              ),
            )
        | inr fewer ↦ absurd (omega (arith, h.enough, long, fewer))
      ]
    ]

-- WHAT STANDS BEFORE THE DIGITS

-- a part of the text in front of the others
split_at : (s : List ℕ) (i k : ℕ) → i ≤ k → drop i s ≡ part s i k ++ drop k s
split_at s i k low =
    let e : i + (k - i) ≡ k = omega arith in
    sym (take-append-drop (k - i) (drop i s))
    ∙ ap (λ r. part s i k ++ r) (drop-drop (k - i) i s ∙ ap (λ n. drop n s) e)

-- the parts behind a place, where the text goes on so
abbrev Behind : List ℕ → List Tree → ℕ → List ℕ → Type 0
Behind s ps i front =
    (k : ℕ) × (drop i s ≡ front ++ drop k s) × (k ≤ length s) × (ws : Ways) × (c : Captures) × (d : Captures)
    × DerivesAll s (trees_of ps) ws k (length s) c d

lead_out : (alternate : Bool) (ps : List Tree) (s : List ℕ) (ws : Ways) (i : ℕ) (c d : Captures) → i ≤ length s
    → DerivesAll s (trees_of (lead_parts alternate ++ ps)) ws i (length s) c d → Behind s ps i (lead alternate)
lead_out false ps s ws i c d low h = (i, refl, low, ws, c, d, h)
lead_out true ps s ws i c d low h =
    let first = all_out s (plain (codes "0x")) (trees_of ps) ws i (length s) c d h in
    let bytes = plain_out s (codes "0x") first.2 i first.0 c first.1 first.4 in (
      first.0,
      split_at s i first.0 bytes.0.0 ∙ ap (λ x. x ++ drop first.0 s) bytes.1,
      bytes.0.1,
      first.3,
      first.1,
      d,
      first.5,
    )

sign_out : (kind : FormatKind) (ps : List Tree) (s : List ℕ) (ws : Ways) (c d : Captures)
    → DerivesAll s (trees_of (sign_parts kind ++ ps)) ws 0 (length s) c d
    → (negative : Bool) × (IsTrue negative → IsTrue (is_signed kind)) × Behind s ps 0 (sign_text negative)
sign_out Unsigned ps s ws c d h = (false, λ n. absurd (true≢false (sym n)), (0, refl, omega arith, ws, c, d, h))
sign_out LowerHex ps s ws c d h = (false, λ n. absurd (true≢false (sym n)), (0, refl, omega arith, ws, c, d, h))
sign_out UpperHex ps s ws c d h = (false, λ n. absurd (true≢false (sym n)), (0, refl, omega arith, ws, c, d, h))
sign_out Signed ps s ws c d h =
    let minus = plain (45 ∷ []) in
    let first = all_out s (repeat minus 0 (Some 1)) (trees_of ps) ws 0 (length s) c d h in
    let lies = is_part s (repeat minus 0 (Some 1)) first.2 0 first.0 c first.1 first.4 in
    elim (maybe_out s minus first.2 0 first.0 c first.1 first.4) [
      | inl skipped ↦ (
        false,
        (λ n. refl),
        (first.0, ap (λ n. drop n s) (sym skipped.0), lies.1, first.3, first.1, d, first.5),
      )
      | inr m ↦
          let bytes = plain_out s (45 ∷ []) m.1 0 first.0 c first.1 m.2 in (
            true,
            (λ n. refl),
            (
              first.0,
              split_at s 0 first.0 bytes.0.0 ∙ ap (λ x. x ++ drop first.0 s) bytes.1,
              lies.1,
              first.3,
              first.1,
              d,
              first.5,
            ),
          )
    ]

-- a list of parts as a branch
branch_out : (ps : List Tree) (s : List ℕ) (w : Way) (i j : ℕ) (c d : Captures) → 0 < length ps
    → Derives s (branch_of ps) w i j c d → (ws : Ways) × DerivesAll s (trees_of ps) ws i j c d
branch_out [] s w i j c d some h = absurd (omega arith)
branch_out (p ∷ []) s w i j c d some h = (next j w done, (d, h, (refl, (is_part s p w i j c d h).1, refl)))
branch_out (p ∷ q ∷ ps) s (parts ws) i j c d some h = (ws, h)
branch_out (p ∷ q ∷ ps) s w i j c d some h = absurd h

branch_in : (ps : List Tree) (s : List ℕ) (ws : Ways) (i j : ℕ) (c d : Captures) → 0 < length ps
    → DerivesAll s (trees_of ps) ws i j c d → Spans s (branch_of ps) i j
branch_in [] s ws i j c d some h = absurd (omega arith)
branch_in (p ∷ []) s ws i j c d some h =
    let first = all_out s p none ws i j c d h in
    let end = none_out s first.3 first.0 j first.1 d first.5 in
    (first.2, c, first.1, subst (λ n. Derives s p first.2 i n c first.1) (sym end.0) first.4)
branch_in (p ∷ q ∷ ps) s ws i j c d some h = (parts ws, c, d, h)

some_parts : (format : Format) → 0 < length (wild_parts format)
some_parts format = omega (
  arith,
  length-append (sign_parts format.kind) rest,
  length-append (lead_parts format.alternate) (digit_parts format.kind format.digits),
  some_digits format.kind format.digits,
)
  where
    rest : List Tree
    rest = lead_parts format.alternate ++ digit_parts format.kind format.digits

    some_digits : (kind : FormatKind) (written : ℕ) → 0 < length (digit_parts kind written)
    some_digits kind zero = omega arith
    some_digits kind (suc p) = omega arith

-- what the expression matches is spelled
wild_only : (format : Format) (text : List ℕ) → Spans text (wild format) 0 (length text)
    → (v : ℤ) × Spells format text v
wild_only format text h =
    let all = branch_out (wild_parts format) text h.0 0 (length text) h.1 h.2 (some_parts format) h.3 in
    let sign = sign_out format.kind (lead_parts format.alternate ++ digit_parts format.kind format.digits) text all.0
    h.1 h.2 all.1 in
    let front = lead_out format.alternate (digit_parts format.kind format.digits) text sign.2.3 sign.2.0 sign.2.4
    sign.2.5 sign.2.2 sign.2.6 in
    let figures = drop front.0 text in
    let are = figures_out format.kind format.digits text front.3 front.0 front.4 front.5 front.6 in (
      signed sign.0 (digits_value (base_of format.kind) figures),
      record {
        negative = sign.0;
        figures = figures;
        written = sign.2.1 ∙ ap (λ r. sign_text sign.0 ++ r) front.1;
        minus = sign.1;
        digits = are;
        means = refl;
      },
    )

-- the parts from a place on, whatever the groups hold there
abbrev From : List ℕ → List Tree → ℕ → Type 0
From s ps k = (c : Captures) → (ws : Ways) × (d : Captures) × DerivesAll s (trees_of ps) ws k (length s) c d

lead_in : (alternate : Bool) (ps : List Tree) (s : List ℕ) (i k : ℕ) → i ≤ length s → k ≤ length s
    → drop i s ≡ lead alternate ++ drop k s → From s ps k → From s (lead_parts alternate ++ ps) i
lead_in false ps s i k low high e rest c =
    let same : k ≡ i = omega (arith, length-drop i s, length-drop k s, ap length e) in
    subst (From s ps) same rest c
lead_in true ps s i k low high e rest c =
    let two : k - i ≡ 2 = omega (arith, length-drop i s, length-drop k s, ap length e) in
    let bytes : part s i k ≡ codes "0x" = ap (λ n. take n (drop i s)) two ∙ ap (take 2) e in
    let r = rest c in
    (next k leaf r.0, r.1, (c, ((omega arith, high), bytes, refl), r.2))

no_sign : (ps : List Tree) (s : List ℕ) (k : ℕ) → k ≤ length s → s ≡ drop k s → From s ps k → From s ps 0
no_sign ps s k high e rest =
    let same : k ≡ 0 = omega (arith, length-drop k s, ap length e) in
    subst (From s ps) same rest

sign_in : (kind : FormatKind) (ps : List Tree) (s : List ℕ) (negative : Bool) (k : ℕ)
    → (IsTrue negative → IsTrue (is_signed kind)) → k ≤ length s → s ≡ sign_text negative ++ drop k s → From s ps k
    → From s (sign_parts kind ++ ps) 0
sign_in Unsigned ps s true k minus high e rest c = absurd (true≢false (sym (minus refl)))
sign_in LowerHex ps s true k minus high e rest c = absurd (true≢false (sym (minus refl)))
sign_in UpperHex ps s true k minus high e rest c = absurd (true≢false (sym (minus refl)))
sign_in Unsigned ps s false k minus high e rest c = no_sign ps s k high e rest c
sign_in LowerHex ps s false k minus high e rest c = no_sign ps s k high e rest c
sign_in UpperHex ps s false k minus high e rest c = no_sign ps s k high e rest c
sign_in Signed ps s false k minus high e rest c =
    let r = no_sign ps s k high e rest c in
    (next 0 (members done) r.0, r.1, (c, ((omega arith, omega arith), (refl, omega arith, refl)), r.2))
sign_in Signed ps s true k minus high e rest c =
    let one : k - 0 ≡ 1 = omega (arith, length-drop k s, ap length e) in
    let bytes : part s 0 k ≡ 45 ∷ [] = ap (λ n. take n s) one ∙ ap (take 1) e in
    let r = rest c in (
      next k (members (next k leaf done)) r.0,
      r.1,
      (
        c,
        (
          (omega arith, omega arith),
          (c, ((omega arith, high), bytes, refl), omega arith, (refl, high, refl)),
        ),
        r.2,
      ),
    )

-- what is spelled is matched
wild_each : (format : Format) (text : List ℕ) (v : ℤ) → Spells format text v
    → Spans text (wild format) 0 (length text)
wild_each format text v h =
    let front : List ℕ = sign_text h.negative in
    let rest : List ℕ = lead format.alternate ++ h.figures in
    let i : ℕ = length front in
    let k : ℕ = i + length (lead format.alternate) in
    let long : length text ≡ i + (length (lead format.alternate) + length h.figures) =
    ap length h.written ∙ length-append front rest
    ∙ ap (λ n. i + n) (length-append (lead format.alternate) h.figures) in
    let behind_sign : drop i text ≡ rest = ap (drop i) h.written ∙ drop-append_seam front rest in
    let behind_lead : drop k text ≡ h.figures =
    sym (drop-drop (length (lead format.alternate)) i text)
    ∙ ap (drop (length (lead format.alternate))) behind_sign
    ∙ drop-append_seam (lead format.alternate) h.figures in
    let digits : From text (digit_parts format.kind format.digits) k =
    λ c. figures_in format.kind format.digits text k c (omega (arith, long))
    (subst (AreDigits format.kind format.digits) (sym behind_lead) h.digits) in
    let from_lead : From text (lead_parts format.alternate ++ digit_parts format.kind format.digits) i =
    lead_in format.alternate (digit_parts format.kind format.digits) text i k (omega (arith, long))
    (omega (arith, long)) (behind_sign ∙ ap (λ r. lead format.alternate ++ r) (sym behind_lead)) digits in
    let all = sign_in format.kind (lead_parts format.alternate ++ digit_parts format.kind format.digits) text h.negative
    i h.minus (omega (arith, long)) (h.written ∙ ap (λ r. front ++ r) (sym behind_sign)) from_lead empty in
    branch_in (wild_parts format) text all.0 0 (length text) empty all.1 (some_parts format) all.2

pub wild_matches : (format : Format) → MatchesSpelled format (wild format)
wild_matches format = record { only = wild_only format; each = wild_each format }
