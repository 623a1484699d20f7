-- How far an automaton was shown a slice when its answer was known, and what the answer says of the slice.
-- Early, where the span can get no longer; at the end otherwise. Places before the first shown one begin no match.
-- The hard one is `span_from_start`, that the span found from a later start is that of the slice.
use Rattle.std.proofs.Common.{◌≡◌, ℕ, ◌+◌, ◌≤◌, Option, Some, None, List, length, take, refl, sym, subst, inl, inr, arith, IsSome, take_all, true≢false}
use Rattle.ere_tree.specs.declared.hit.Cap.{Cap}
use Rattle.std.proofs.lemmas.Bool.{cases_lt}
use Rattle.ere_match.specs.Begins.{NoneBefore}
use Rattle.ere_match.specs.Shown.{ShownFor, Finds}
use Rattle.ere_tree.specs.Derivation.{Spans}
use Rattle.ere_tree.specs.Tree.{Tree}
use Rattle.ere_tree.proofs.DerivationLemmas.{is_part}
use Rattle.ere_auto.specs.Span.{IsSpan}
use Rattle.ere_auto.specs.Seen.{State, HasFound}

pub shown_early : (best : Option Cap) (count at shown : ℕ) → IsSome best → ((c : Cap) → best ≡ Some c → c.to ≤ at)
    → at ≤ shown → shown ≤ count + 1 → ShownFor count best shown
shown_early None count at shown some within l m = absurd (true≢false (sym some))
shown_early (Some found) count at shown some within l m = (omega (arith, within found refl, l), m)

pub shown_all : (best : Option Cap) (count at shown : ℕ) → ((c : Cap) → best ≡ Some c → c.to ≤ at) → at ≤ shown
    → shown ≡ count + 1 → ShownFor count best shown
shown_all None count at shown within l m = m
shown_all (Some found) count at shown within l m = (omega (arith, within found refl, l), omega (arith, m))

-- early, where a span was found, and at the end
pub finds_early : (a : State) (t : Tree) (s : List ℕ) (begin count : ℕ) (found : Option Cap) → HasFound a t s
    → IsSome a.best → found ≡ a.best → a.begin ≡ begin → a.at ≤ count → count ≤ length s + 1
    → Finds s t begin found count
finds_early a t s begin count found h some is b l m =
    subst (λ f. Finds s t begin f count) (sym is) (record {
      span = subst (λ x. IsSpan s t x a.best) b h.span;
      shown_for = shown_early a.best (length s) a.at count some h.within l m;
    })

pub finds_all : (a : State) (t : Tree) (s : List ℕ) (begin count : ℕ) (found : Option Cap) → HasFound a t s
    → found ≡ a.best → a.begin ≡ begin → a.at ≤ count → count ≡ length s + 1 → Finds s t begin found count
finds_all a t s begin count found h is b l m =
    subst (λ f. Finds s t begin f count) (sym is) (record {
      span = subst (λ x. IsSpan s t x a.best) b h.span;
      shown_for = shown_all a.best (length s) a.at count h.within l m;
    })

pub take_whole : (s : List ℕ) (i : ℕ) → length s ≤ i → take i s ≡ s
take_whole s i h = take_all i s h

-- where no match begins before the place, the span from there on is that of the slice
span_from_start : (s : List ℕ) (t : Tree) (place : ℕ) (found : Option Cap) → NoneBefore s t place
    → IsSpan s t place found
    → IsSpan s t 0 found
span_from_start s t place None n h = λ i k b spans.
    elim (cases_lt i place) [ inl before ↦ n.none i k before spans | inr behind ↦ h i k behind spans ]
span_from_start s t place (Some c) n h = (
  record {
    begins = omega arith;
    matches = h.0.matches;
    leftmost = λ i k b l spans.
        elim (cases_lt i place) [ inl before ↦ n.none i k before spans | inr behind ↦ h.0.leftmost i k behind l spans ];
    longest = h.0.longest;
  },
  h.1,
)

pub finds_from_start : (s : List ℕ) (t : Tree) (place : ℕ) (found : Option Cap) (shown : ℕ) → NoneBefore s t place
    → Finds s t place found shown → Finds s t 0 found shown
finds_from_start s t place found shown n h = record {
  span = span_from_start s t place found n h.span;
  shown_for = h.shown_for;
}

-- what is spanned ends in the slice
pub spans_within : (s : List ℕ) (t : Tree) (i j : ℕ) → Spans s t i j → j ≤ length s
spans_within s t i j (w, c, d, shows) = (is_part s t w i j c d shows).1

-- where the first match begins with this longest span
pub finds_longest : (s : List ℕ) (t : Tree) (i j shown : ℕ) → NoneBefore s t i
    → Spans s t i j × ((k : ℕ) → Spans s t i k → k ≤ j) → shown ≡ j → Finds s t 0 (Some (record { from = i; to = j })) shown
finds_longest s t i j shown n (spans, longest) is =
    let within = spans_within s t i j spans in
    record {
      span = (
        record {
          begins = omega arith;
          matches = spans;
          leftmost = λ h k b low other. n.none h k low other;
          longest = longest;
        },
        within,
      );
      shown_for = (omega (arith, is), omega (arith, is, within));
    }
