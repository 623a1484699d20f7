-- Where a hit lies: from the first place from which something derives, up to the greatest end from there. That there is such a
-- hit is said by the law of the value; and what a greatest end tells of the place at hand.
-- The hard one is `hit_lies`: the hit that there is can neither begin nor end elsewhere.
use Rattle.std.proofs.Common.{◌≡◌, ℕ, ◌+◌, ◌-◌, ◌≤◌, false, Option, Some, None, List, drop, sym, subst, inl, inr, arith}
use Rattle.std.proofs.lemmas.Bool.{cases_lt}
use Rattle.std.specs.Cmp.{nat_cmp_is}
use Rattle.std.specs.FinMap.{empty}
use Rattle.std.specs.Ordering.{ordering_then}
use Rattle.std.specs.declared.cmp.Ordering.TheVariants.{Less}
use Rattle.ere_auto.specs.Span.{IsSpan}
use Rattle.ere_hit.specs.Value.{hit_in}
use Rattle.ere_hit.proofs.ValueLemmas.{value_is_hit}
use Rattle.ere_match.specs.Filter.{MayLie}
use Rattle.ere_match.specs.Spans.{LiesAt}
use Rattle.ere_match.proofs.FilterLemmas.{no_hit_at}
use Rattle.ere_reach.specs.Leads.{TellsEnd}
use Rattle.ere_slow.specs.Slow.{HasNoHitBefore}
use Rattle.ere_tree.proofs.DerivationLemmas.{is_part}
use Rattle.ere_tree.proofs.FreeLemmas.{free}
use Rattle.ere_tree.specs.Captures.{Captures}
use Rattle.ere_tree.specs.Derivation.{Way, Derives}
use Rattle.ere_tree.specs.Hit.{FindsHit, IsHit}
use Rattle.ere_tree.specs.Preference.{within}
use Rattle.ere_tree.specs.Shape.{has_refs}
use Rattle.ere_tree.specs.Tree.{Tree}
use Rattle.ere_tree.specs.declared.hit.Cap.{Cap}
use Rattle.ere_tree.specs.declared.hit.Hit.{Hit}

pub hit_lies : (text : List ℕ) (t : Tree) (from i j : ℕ) → HasNoHitBefore (drop from text) t i → (w : Way) (d : Captures)
    → Derives (drop from text) t w i j empty d
    → ((k : ℕ) (v : Way) (e : Captures) → Derives (drop from text) t v i k empty e → k ≤ j)
    → LiesAt text t from (from + i) (from + j)
hit_lies text t from i j none w d shows longest = lies (hit_in text t from) (value_is_hit text t from)
  where
    s : List ℕ
    s = drop from text

    starts : (h k : ℕ) (c : Captures) → IsHit s t h k c → h ≡ i
    starts h k c is = elim (cases_lt h i) [
      | inl low ↦ absurd (none h k is.way c low is.shows)
      | inr high ↦
          elim (cases_lt i h) [
            | inl above ↦ absurd (is.leftmost i j w d above shows)
            | inr same ↦ omega (arith, high, same)
          ]
    ]

    ends : (k : ℕ) (c : Captures) → IsHit s t i k c → k ≡ j
    ends k c is = elim (cases_lt k j) [
      | inl low ↦
          absurd (is.preferred j w d shows
          (sym (λ n. ordering_then (nat_cmp_is k j Less low n) (within w is.way))))
      | inr high ↦ omega (arith, high, longest k is.way c is.shows)
    ]

    lies : (found : Option Hit) → FindsHit text t from found → LiesAt text t from (from + i) (from + j)
    lies None nothing = absurd (nothing i j w d shows)
    lies (Some hit) is =
        let to = hit.to - from in
        let start = starts (hit.from - from) to is.captures is.is_hit in
        let end = ends to is.captures (subst (λ n. IsHit s t n to is.captures) start is.is_hit) in
        (hit, is, omega (arith, is.behind, start), omega (arith, is.behind, is.ordered, end))

-- without references the span tells it
pub span_lies : (text : List ℕ) (t : Tree) (from : ℕ) (span : Cap) → has_refs t ≡ false
    → IsSpan (drop from text) t 0 (Some span)
    → LiesAt text t from (from + span.from) (from + span.to)
span_lies text t from span no_refs is =
    let (w, c, d, shows) = is.0.matches in
    let here = free (drop from text) t no_refs w span.from span.to c d empty shows in
    hit_lies text t from span.from span.to
    (λ h k v e low other. is.0.leftmost h k (omega arith) low (v, empty, e, other)) w here.0 here.1
    (λ k v e other. is.0.longest k (v, empty, e, other))

-- WHAT A GREATEST END TELLS

pub none_ends : (s : List ℕ) (t : Tree) (span : Cap) → MayLie s t (Some span) → TellsEnd s t span.from span.to None
    → HasNoHitBefore s t (span.from + 1)
none_ends s t span lies none = no_hit_at s t 0 span lies (λ k v d low shows. none v k d low shows)

pub lies_to : (s : List ℕ) (t : Tree) (span : Cap) (end : ℕ) → MayLie s t (Some span)
    → TellsEnd s t span.from span.to (Some end) → MayLie s t (Some (record { from = span.from; to = end }))
lies_to s t span end lies is = (
  lies.0,
  is_part s t is.0 span.from end empty is.1 is.3,
  λ k v d shows. is.4 v k d (lies.2 k v d shows) shows,
)

pub ends_there : (text : List ℕ) (t : Tree) (from : ℕ) (span : Cap) (end : ℕ) → MayLie (drop from text) t (Some span)
    → TellsEnd (drop from text) t span.from span.to (Some end) → LiesAt text t from (from + span.from) (from + end)
ends_there text t from span end lies is =
    hit_lies text t from span.from end lies.0 is.0 is.1 is.3 (lies_to (drop from text) t span end lies is).2
