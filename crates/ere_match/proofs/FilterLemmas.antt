-- Where a hit may lie, as the span of an expression without references tells that spans whatever this one spans.
-- Where that one spans nothing from a place on, this one has no hit there; each try leaves fewer places.
-- `lies_from` is the hard one: the hit begins at the span's start or behind it.
use Rattle.std.proofs.Common.{◌≡◌, ℕ, ◌+◌, ◌-◌, ◌≤◌, ◌<◌, Option, Some, None, IfSome, List, drop, length, sym, subst, inl, inr, arith}
use Rattle.std.proofs.lemmas.Bool.{cases_lt}
use Rattle.std.specs.FinMap.{empty}
use Rattle.ere_auto.specs.Span.{IsSpan}
use Rattle.ere_match.specs.Begins.{NoneBefore}
use Rattle.ere_match.specs.Filter.{LiesFrom, MayLie}
use Rattle.ere_match.specs.Shown.{ShownFor}
use Rattle.ere_refs.specs.Over.{IsBestTo, TellsBest}
use Rattle.ere_refs.specs.declared.trying.Found.{Found}
use Rattle.ere_relaxed.specs.Relaxed.{AreBytes, SpansAll}
use Rattle.ere_slow.specs.Slow.{HasNoHitBefore}
use Rattle.ere_tree.proofs.DerivationLemmas.{is_part}
use Rattle.ere_tree.specs.Derivation.{Derives}
use Rattle.ere_tree.specs.Hit.{HasNoHit, IsHit, TellsHit}
use Rattle.ere_tree.specs.Tree.{Tree}
use Rattle.ere_tree.specs.declared.hit.Cap.{Cap}

pub no_hit_begins : (s : List ℕ) (t : Tree) (place : ℕ) → NoneBefore s t place → HasNoHitBefore s t place
no_hit_begins s t place n h k v d low shows = n.none h k low (v, empty, d, shows)

pub no_hit_behind : (s : List ℕ) (t : Tree) (place : ℕ) → HasNoHitBefore s t place → length s < place → HasNoHit s t
no_hit_behind s t place none past h k v d shows =
    let lies = is_part s t v h k empty d shows in
    none h k v d (omega (arith, lies.0, lies.1, past)) shows

pub lies_from : (s : List ℕ) (t u : Tree) (place : ℕ) (found : Option Cap) → AreBytes s → SpansAll t u
    → IsSpan s u place found → LiesFrom s t place found
lies_from s t u place None bytes spans span = λ h k v d high shows. span h k high (spans s v h k d bytes shows)
lies_from s t u place (Some cap) bytes spans span =
    let (w, c, d, shows) = span.0.matches in (
      λ h k v e high low other. span.0.leftmost h k high low (spans s v h k e bytes other),
      is_part s u w cap.from cap.to c d shows,
      λ k v e other. span.0.longest k (spans s v cap.from k e bytes other),
    )

pub may_lie : (s : List ℕ) (t : Tree) (place : ℕ) (found : Option Cap) → HasNoHitBefore s t place → LiesFrom s t place found
    → MayLie s t found
may_lie s t place None before lies = λ h k v d shows. elim (cases_lt h place) [
  | inl low ↦ before h k v d low shows
  | inr high ↦ lies h k v d high shows
]
may_lie s t place (Some cap) before lies = (
  λ h k v d low shows. elim (cases_lt h place) [
    | inl early ↦ before h k v d early shows
    | inr late ↦ lies.0 h k v d late low shows
  ],
  lies.1,
  lies.2,
)

-- at most all was shown
pub shown_most : (count shown : ℕ) (found : Option Cap) → ShownFor count found shown → shown ≤ count + 1
shown_most count shown None h = omega (arith, h)
shown_most count shown (Some cap) h = h.1

-- how much is left to be tried
abbrev pub left_of : ℕ → Option Cap → ℕ
left_of count None = 0
left_of count (Some span) = count + 1 - span.from

-- each try leaves less
pub fewer : (count : ℕ) (span : Cap) (last : ℕ) (old found : Option Cap) → old ≡ Some span → span.from ≤ count
    → span.from ≤ last → IfSome found (λ next. last < next.from) → left_of count found < left_of count old
fewer count span last old None is low on later = subst (λ o. 0 < left_of count o) (sym is) (omega arith)
fewer count span last old (Some next) is low on later =
    subst (λ o. count + 1 - next.from < left_of count o) (sym is) (omega (arith, on, later))

pub starts_behind : (s : List ℕ) (u : Tree) (place : ℕ) (found : Option Cap) → IsSpan s u (place + 1) found
    → IfSome found (λ span. place < span.from)
starts_behind s u place None span = tt
starts_behind s u place (Some cap) span = omega (arith, span.0.begins)

-- A TRY FROM ONE PLACE

pub no_hit_at : (s : List ℕ) (t : Tree) (start : ℕ) (span : Cap) → MayLie s t (Some span)
    → TellsBest s t start span.from span.to None → HasNoHitBefore s t (span.from + 1)
no_hit_at s t start span lies none h k v d low shows = elim (cases_lt h span.from) [
  | inl before ↦ lies.0 h k v d before shows
  | inr past ↦
      let here = subst (λ n. Derives s t v n k empty d) (let same : h ≡ span.from = omega (arith, low, past) in same) shows in
      none k v d (lies.2 k v d here) here
]

pub hit_is : (text : List ℕ) (t : Tree) (from : ℕ) (span : Cap) (found : Found) → MayLie (drop from text) t (Some span)
    → IsBestTo (drop from text) t from span.from span.to found
    → TellsHit text t from (record { from = from + span.from; to = from + found.to; groups = found.groups })
hit_is text t from span found lies best =
    let s = drop from text in
    let low : span.from ≡ from + span.from - from = omega arith in
    let high : found.to ≡ from + found.to - from = omega arith in
    record {
      captures = best.captures;
      behind = omega arith;
      ordered = omega (arith, (is_part s t best.way span.from found.to empty best.captures best.shows).0);
      is_hit = subst (λ m. IsHit s t m (from + found.to - from) best.captures) low
          (subst (λ n. IsHit s t span.from n best.captures) high
          (record {
            way = best.way;
            shows = best.shows;
            leftmost = lies.0;
            preferred = λ k v d shows. best.preferred k v d (lies.2 k v d shows) shows;
          }));
      groups = best.are;
    }
