-- The hit of a slice: the leftmost longest span with the captures of its best way.
use Rattle.std.proofs.Common.{◌≡◌, ℕ, ◌+◌, ◌-◌, Option, List, drop, subst, arith}
use Rattle.std.specs.FinMap.{empty}
use Rattle.ere_tree.specs.Derivation.{Derives, Spans}
use Rattle.ere_tree.specs.Hit.{IsHit, HasNoHit, TellsHit}
use Rattle.ere_tree.specs.Tree.{Tree}
use Rattle.ere_tree.specs.declared.hit.Cap.{Cap}
use Rattle.ere_auto.specs.Span.{IsFirstLongest, IsNowhere}
use Rattle.ere_captures.specs.Best.{AreBestCaps}
use Rattle.ere_captures.proofs.BestLemmas.{not_less}
use Rattle.ere_tree.proofs.DerivationLemmas.{is_part}

pub no_hit : (s : List ℕ) (t : Tree) → IsNowhere (Spans s t) 0 → HasNoHit s t
no_hit s t none h k v d shows = none h k (omega arith) (v, empty, d, shows)

is_hit : (s : List ℕ) (t : Tree) (i j start : ℕ) (caps : List (Option Cap)) → IsFirstLongest (Spans s t) 0 i j
    → (best : AreBestCaps s t i j start caps) → IsHit s t i j best.captures
is_hit s t i j start caps span best = record {
  way = best.way;
  shows = best.shows;
  leftmost = λ h k v d before shows. span.leftmost h k (omega arith) before (v, empty, d, shows);
  preferred = λ k v d shows.
      not_less j k _ (span.longest k (v, empty, d, shows))
      (λ same. best.best v empty d (subst (λ n. Derives s t v i n empty d) same shows));
}

pub tells_hit : (text : List ℕ) (t : Tree) (from i j : ℕ) (caps : List (Option Cap))
    → IsFirstLongest (Spans (drop from text) t) 0 i j → AreBestCaps (drop from text) t i j from caps
    → TellsHit text t from (record { from = from + i; to = from + j; groups = caps })
tells_hit text t from i j caps span best =
    let s = drop from text in
    let c = best.captures in
    let low : i ≡ from + i - from = omega arith in
    let high : j ≡ from + j - from = omega arith in
    record {
      captures = c;
      behind = omega arith;
      ordered = omega (arith, (is_part s t best.way i j empty c best.shows).0);
      is_hit = subst (λ m. IsHit s t m (from + j - from) c) low
          (subst (λ n. IsHit s t i n c) high (is_hit s t i j from caps span best));
      groups = best.are;
    }
