-- The greatest place that passes a test, one place after the other; and the greatest end that leads on.
-- What is held so far is the greatest of the places up to there, and one place more is compared with it.
-- The hard one is `greatest_more`: the place passes, and may be the greater one.
use Rattle.std.proofs.Common.{◌≡◌, ◌↔◌, ℕ, ◌+◌, ◌<◌, ◌≤◌, Bool, true, false, IsTrue, max, Option, Some, None, List, [], ◌∷◌, length, take, get_or, refl, sym, ap, ◌∙◌, subst, inl, inr, arith, true≢false}
use Rattle.std.specs.List.{All, Contains}
use Rattle.std.proofs.lemmas.Bool.{cases_lt, le-leb}
use Rattle.std.proofs.lemmas.List.Elements.{All-weaker}
use Rattle.ere_tree.specs.Derivation.{Spans}
use Rattle.ere_tree.specs.Tree.{Tree}
use Rattle.ere_places.specs.Seen.{is_beyond}
use Rattle.ere_places.specs.declared.window.Direction.{Direction}
use Rattle.ere_places.specs.declared.window.Direction.TheVariants.{Ahead, Back}
use Rattle.ere_places.specs.Places.{IsInside, LeadsInside, AreReached}
use Rattle.ere_places.proofs.ListLemmas.{taken}
use Rattle.ere_places.proofs.SpanLemmas.{spans_part}
use Rattle.ere_captures.specs.Walk.{IsGreatest, greater}

pub greatest_more : (test : ℕ → Bool) (places : List ℕ) (i : ℕ) (held : Option ℕ) → i < length places
    → test (get_or places i 0) ≡ true → IsGreatest test (take i places) held
    → IsGreatest test (take (i + 1) places) (Some (greater held (get_or places i 0)))
greatest_more test places i None low passes known = (
  (taken places i low (get_or places i 0)).1 (inr refl),
  passes,
  λ q has holds. elim ((taken places i low q).0 has) [
    | inl old ↦ absurd (known q old holds)
    | inr is ↦ omega (arith, is)
  ],
)
greatest_more test places i (Some m) low passes known = elim (cases_lt m (get_or places i 0)) [
  | inl lower ↦
      let same : max m (get_or places i 0) ≡ get_or places i 0 = omega arith in
      subst (λ n. IsGreatest test (take (i + 1) places) (Some n)) (sym same) (
        (taken places i low (get_or places i 0)).1 (inr refl),
        passes,
        λ q has holds. elim ((taken places i low q).0 has) [
          | inl old ↦ let fits = known.2 q old holds in omega arith
          | inr is ↦ omega (arith, is)
        ],
      )
  | inr upper ↦
      let same : max m (get_or places i 0) ≡ m = omega arith in
      subst (λ n. IsGreatest test (take (i + 1) places) (Some n)) (sym same) (
        (taken places i low m).1 (inl known.0),
        known.1,
        λ q has holds. elim ((taken places i low q).0 has) [
          | inl old ↦ known.2 q old holds
          | inr is ↦ omega (arith, is)
        ],
      )
]

pub greatest_skip : (test : ℕ → Bool) (places : List ℕ) (i : ℕ) (held : Option ℕ) → i < length places
    → test (get_or places i 0) ≡ false → IsGreatest test (take i places) held
    → IsGreatest test (take (i + 1) places) held
greatest_skip test places i None low fails known = λ q has holds. elim ((taken places i low q).0 has) [
  | inl old ↦ known q old holds
  | inr is ↦ true≢false (sym (ap test is ∙ holds) ∙ fails)
]
greatest_skip test places i (Some m) low fails known = (
  (taken places i low m).1 (inl known.0),
  known.1,
  λ q has holds. elim ((taken places i low q).0 has) [
    | inl old ↦ known.2 q old holds
    | inr is ↦ absurd (true≢false (sym (ap test is ∙ holds) ∙ fails))
  ],
)

-- one place is all of a list
pub only_one : (x q : ℕ) → Contains (x ∷ []) q → q ≡ x
only_one x q (k, low, at) = first k low at
  where
    first : (k : ℕ) → k < length (x ∷ []) → get_or (x ∷ []) k q ≡ q → q ≡ x
    first k low at = sym at ∙ ap (λ n. get_or (x ∷ []) n q) (none k low)
      where
        none : (k : ℕ) → k < length (x ∷ []) → k ≡ 0
        none k low = omega arith

pub the_one : (x : ℕ) → Contains (x ∷ []) x
the_one x = (0, omega arith, refl)

-- the ends that an expression has from a place
pub ends_are : (s : List ℕ) (t : Tree) (from to : ℕ) (ends : List ℕ) → from ≤ to
    → AreReached (LeadsInside s t (record { low = from; high = to; direction = Ahead })) (from ∷ []) ends
    → (q : ℕ) → Contains ends q ↔ (Spans s t from q × (q ≤ to))
ends_are s t from to ends order reached q = (
  λ has. let r = (reached q).0 has in
      (subst (λ n. Spans s t n q) (only_one from r.0 r.1) r.2.0, r.2.1.1),
  λ h. (reached q).1 (from, the_one from, (h.0, ((spans_part s t from q h.0).0, h.1))),
)

-- the starts that it has to a place
pub starts_are : (s : List ℕ) (t : Tree) (from to : ℕ) (starts : List ℕ) → from ≤ to
    → AreReached (LeadsInside s t (record { low = from; high = to; direction = Back })) (to ∷ []) starts
    → (q : ℕ) → Contains starts q ↔ (Spans s t q to × (from ≤ q))
starts_are s t from to starts order reached q = (
  λ has. let r = (reached q).0 has in
      (subst (λ n. Spans s t q n) (only_one to r.0 r.1) r.2.0, r.2.1.0),
  λ h. (reached q).1 (to, the_one to, (h.0, (h.1, (spans_part s t q to h.0).0))),
)

pub greatest_end : (s : List ℕ) (t : Tree) (from to : ℕ) (ends : List ℕ) (test : ℕ → Bool) (m : ℕ)
    → ((q : ℕ) → Contains ends q ↔ (Spans s t from q × (q ≤ to))) → IsGreatest test ends (Some m)
    → Spans s t from m × (m ≤ to) × IsTrue (test m)
    × ((k : ℕ) → Spans s t from k → k ≤ to → IsTrue (test k) → k ≤ m)
greatest_end s t from to ends test m are best =
    let r = (are m).0 best.0 in
    (r.0, r.1, best.1, λ k span low holds. best.2 k ((are k).1 (span, low)) holds)

-- they lie before the end
pub inside_beyond : (from to : ℕ) (d : Direction) (places : List ℕ)
    → All (IsInside (record { low = from; high = to; direction = d })) places
    → All (λ q. IsTrue (is_beyond Back to q)) places
inside_beyond from to d places inside =
    All-weaker (IsInside (record { low = from; high = to; direction = d })) (λ q. IsTrue (is_beyond Back to q))
    (λ q h. le-leb q to h.1) places inside
