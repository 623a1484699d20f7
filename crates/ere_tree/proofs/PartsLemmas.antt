-- Derivations of a given expression, taken apart and put together. Each lemma is named for the form of the
-- expression: `cat_out` takes a derivation of a concatenation apart, `cat_in` makes one. The long ones are those of
-- a set that is repeated: its members are the bytes one by one.
use Rattle.std.proofs.Common.{◌≡◌, ℕ, ◌+◌, ◌-◌, ◌<◌, ◌≤◌, zero, suc, Option, Some, List, length, slice_index, inl, inr, arith, refl, sym, ◌∙◌, subst}
use Rattle.std.specs.Prelude.{◌⊎◌}
use Rattle.std.specs.List.{Contains}
use Rattle.std.proofs.lemmas.Bool.{cases_order}
use Rattle.ere_tree.specs.Tree.{Tree, Trees, plain, set, cat, alt, repeat, group, none, then}
use Rattle.ere_tree.specs.Captures.{Captures}
use Rattle.ere_tree.specs.Derivation.{Way, Ways, leaf, parts, members, chosen, inside, done, next, Derives, DerivesAll, DerivesEach, CanRepeat, IsPart, part, count_of, tree_at}
use Rattle.ere_tree.proofs.DerivationLemmas.{is_part}

-- LEAVES

pub plain_out : (s bytes : List ℕ) (w : Way) (i j : ℕ) (c d : Captures) → Derives s (plain bytes) w i j c d
    → IsPart s i j × (part s i j ≡ bytes) × (d ≡ c)
plain_out s bytes leaf i j c d h = h
plain_out s bytes w i j c d h = absurd h

pub set_out : (s bytes : List ℕ) (w : Way) (i j : ℕ) (c d : Captures) → Derives s (set bytes) w i j c d
    → (j ≡ i + 1) × (i < length s) × Contains bytes (slice_index s i) × (d ≡ c)
set_out s bytes leaf i j c d h = h
set_out s bytes w i j c d h = absurd h

-- FORMS

pub cat_out : (s : List ℕ) (ts : Trees) (w : Way) (i j : ℕ) (c d : Captures) → Derives s (cat ts) w i j c d
    → (ws : Ways) × (w ≡ parts ws) × DerivesAll s ts ws i j c d
cat_out s ts (parts ws) i j c d h = (ws, refl, h)
cat_out s ts w i j c d h = absurd h

pub all_out : (s : List ℕ) (t : Tree) (ts : Trees) (ws : Ways) (i j : ℕ) (c d : Captures)
    → DerivesAll s (then t ts) ws i j c d
    → (k : ℕ) × (e : Captures) × (v : Way) × (vs : Ways) × Derives s t v i k c e × DerivesAll s ts vs k j e d
all_out s t ts (next k v vs) i j c d h = (k, h.0, v, vs, h.1, h.2)
all_out s t ts done i j c d h = absurd h

pub none_out : (s : List ℕ) (ws : Ways) (i j : ℕ) (c d : Captures) → DerivesAll s none ws i j c d
    → (j ≡ i) × (d ≡ c)
none_out s done i j c d h = (h.0, h.2)
none_out s (next k w ws) i j c d h = absurd h

-- a concatenation of two
pub two_out : (s : List ℕ) (t u : Tree) (w : Way) (i j : ℕ) (c d : Captures)
    → Derives s (cat (then t (then u none))) w i j c d
    → (k : ℕ) × (e : Captures) × (v : Way) × (x : Way) × Derives s t v i k c e × Derives s u x k j e d
two_out s t u w i j c d h =
    let all = cat_out s (then t (then u none)) w i j c d h in
    let first = all_out s t (then u none) all.0 i j c d all.2 in
    let last = all_out s u none first.3 first.0 j first.1 d first.5 in
    let end = none_out s last.3 last.0 j last.1 d last.5 in (
      first.0,
      first.1,
      first.2,
      last.2,
      first.4,
      subst (λ n. Derives s u last.2 first.0 n first.1 d) (sym end.0)
          (subst (λ x. Derives s u last.2 first.0 last.0 first.1 x) (sym end.1) last.4),
    )

pub two_in : (s : List ℕ) (t u : Tree) (v x : Way) (i k j : ℕ) (c e d : Captures) → Derives s t v i k c e
    → Derives s u x k j e d
    → Derives s (cat (then t (then u none))) (parts (next k v (next j x done))) i j c d
two_in s t u v x i k j c e d first second =
    (e, first, (d, second, (refl, (is_part s u x k j e d second).1, refl)))

pub alt_out : (s : List ℕ) (ts : Trees) (w : Way) (i j : ℕ) (c d : Captures) → Derives s (alt ts) w i j c d
    → (n : ℕ) × (v : Way) × (t : Tree) × (tree_at ts n ≡ Some t) × Derives s t v i j c d
alt_out s ts (chosen n v) i j c d h = (n, v, h.0, h.1, h.2)
alt_out s ts w i j c d h = absurd h

pub group_out : (s : List ℕ) (n : ℕ) (t : Tree) (w : Way) (i j : ℕ) (c d : Captures) → Derives s (group n t) w i j c d
    → (v : Way) × (e : Captures) × Derives s t v i j c e
group_out s n t (inside v) i j c d h = (v, h.0, h.1)
group_out s n t w i j c d h = absurd h

pub repeat_out : (s : List ℕ) (t : Tree) (least : ℕ) (most : Option ℕ) (w : Way) (i j : ℕ) (c d : Captures)
    → Derives s (repeat t least most) w i j c d
    → (ws : Ways) × CanRepeat least most (count_of ws) × DerivesEach s t least ws i j c d
repeat_out s t least most (members ws) i j c d h = (ws, h.0, h.1)
repeat_out s t least most w i j c d h = absurd h

-- an optional part: no member, or one that isn't empty
pub maybe_out : (s : List ℕ) (t : Tree) (w : Way) (i j : ℕ) (c d : Captures) → Derives s (repeat t 0 (Some 1)) w i j c d
    → ((j ≡ i) × (d ≡ c)) ⊎ ((i < j) × (v : Way) × Derives s t v i j c d)
maybe_out s t (members done) i j c d h = inl (h.1.0, h.1.2)
maybe_out s t (members (next k v done)) i j c d h = inr (
  omega (arith, h.1.2, h.1.3.0),
  v,
  subst (λ n. Derives s t v i n c d) (sym h.1.3.0) (subst (λ e. Derives s t v i k c e) (sym h.1.3.2) h.1.1),
)
maybe_out s t (members (next k v (next m x ws))) i j c d h = absurd (omega (arith, h.0.1))
maybe_out s t w i j c d h = absurd h

-- A SET THAT IS REPEATED

-- each byte from i to before j is one of these
abbrev pub AllIn : List ℕ → List ℕ → ℕ → ℕ → Type 0
AllIn bytes s i j = (n : ℕ) → i ≤ n → n < j → Contains bytes (slice_index s n)

-- one byte more on the left
pub AllIn-more : (bytes s : List ℕ) (i j : ℕ) → Contains bytes (slice_index s i) → AllIn bytes s (i + 1) j
    → AllIn bytes s i j
AllIn-more bytes s i j h all n low high = elim (cases_order i n) [
  | inl p ↦ subst (λ m. Contains bytes (slice_index s m)) p h
  | inr q ↦ all n (omega arith) high
]

pub each_out : (s bytes : List ℕ) (least : ℕ) (ws : Ways) (i j : ℕ) (c d : Captures)
    → DerivesEach s (set bytes) least ws i j c d
    → (j ≡ i + count_of ws) × AllIn bytes s i j × (j ≤ length s) × (d ≡ c)
each_out s bytes least done i j c d h =
    (omega arith, λ k low high. absurd (omega arith), omega arith, h.2)
each_out s bytes zero (next k leaf ws) i j c d h =
    let r = each_out s bytes zero ws k j h.0 d h.3 in
    let rest = subst (λ n. AllIn bytes s n j) h.1.0 r.1 in
    (omega (arith, h.1.0, r.0), AllIn-more bytes s i j h.1.2 rest, r.2, r.3 ∙ h.1.3)
each_out s bytes (suc least) (next k leaf ws) i j c d h =
    let r = each_out s bytes least ws k j h.0 d h.2 in
    let rest = subst (λ n. AllIn bytes s n j) h.1.0 r.1 in
    (omega (arith, h.1.0, r.0), AllIn-more bytes s i j h.1.2 rest, r.2, r.3 ∙ h.1.3)
each_out s bytes least (next k w ws) i j c d h = absurd h.1

-- so many members from a place on
each_in : (s bytes : List ℕ) (n least i : ℕ) (c : Captures) → i + n ≤ length s → AllIn bytes s i (i + n)
    → (ws : Ways) × (count_of ws ≡ n) × DerivesEach s (set bytes) least ws i (i + n) c c
each_in s bytes zero least i c b all = (done, refl, (omega arith, omega arith, refl))
each_in s bytes (suc n) zero i c b all =
    let r = each_in s bytes n zero (i + 1) c (omega arith) (λ k low high. all k (omega arith) (omega arith)) in
    let e : (i + 1) + n ≡ i + suc n = omega arith in (
      next (i + 1) leaf r.0,
      omega (arith, r.1),
      (
        c,
        (refl, omega arith, all i (omega arith) (omega arith), refl),
        omega arith,
        subst (λ j. DerivesEach s (set bytes) zero r.0 (i + 1) j c c) e r.2,
      ),
    )
each_in s bytes (suc n) (suc least) i c b all =
    let r = each_in s bytes n least (i + 1) c (omega arith) (λ k low high. all k (omega arith) (omega arith)) in
    let e : (i + 1) + n ≡ i + suc n = omega arith in (
      next (i + 1) leaf r.0,
      omega (arith, r.1),
      (
        c,
        (refl, omega arith, all i (omega arith) (omega arith), refl),
        subst (λ j. DerivesEach s (set bytes) least r.0 (i + 1) j c c) e r.2,
      ),
    )

-- up to a place
pub each_to : (s bytes : List ℕ) (least i j : ℕ) (c : Captures) → i ≤ j → j ≤ length s → AllIn bytes s i j
    → (ws : Ways) × (count_of ws ≡ j - i) × DerivesEach s (set bytes) least ws i j c c
each_to s bytes least i j c low high all =
    let e : i + (j - i) ≡ j = omega arith in
    let r = each_in s bytes (j - i) least i c (omega arith) (λ k a b. all k a (omega arith)) in
    (r.0, r.1, subst (λ n. DerivesEach s (set bytes) least r.0 i n c c) e r.2)

-- a repeat of a set spans what lies in the slice, has only bytes of the set, and as many as its bounds allow
pub sets_out : (s bytes : List ℕ) (least : ℕ) (most : Option ℕ) (w : Way) (i j : ℕ) (c d : Captures)
    → Derives s (repeat (set bytes) least most) w i j c d
    → CanRepeat least most (j - i) × IsPart s i j × AllIn bytes s i j × (d ≡ c)
sets_out s bytes least most w i j c d h =
    let all = repeat_out s (set bytes) least most w i j c d h in
    let r = each_out s bytes least all.0 i j c d all.2 in
    let e : count_of all.0 ≡ j - i = omega (arith, r.0) in
    (subst (CanRepeat least most) e all.1, (omega (arith, r.0), r.2), r.1, r.3)

pub sets_in : (s bytes : List ℕ) (least : ℕ) (most : Option ℕ) (i j : ℕ) (c : Captures)
    → CanRepeat least most (j - i) → IsPart s i j → AllIn bytes s i j
    → (w : Way) × Derives s (repeat (set bytes) least most) w i j c c
sets_in s bytes least most i j c fits lies all =
    let r = each_to s bytes least i j c lies.0 lies.1 all in
    (members r.0, (subst (CanRepeat least most) (sym r.1) fits, r.2))
