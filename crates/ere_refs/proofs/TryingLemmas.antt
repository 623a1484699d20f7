-- A try from one place: each end that was passed by is no end of a derivation, and what is found at the first one that is,
-- is preferred to all others: those that end later were passed, and those that end there are in its lists.
-- The hard one is `best_to`.
use Rattle.std.proofs.Common.{◌≡◌, ◌↔◌, ℕ, ◌+◌, ◌-◌, ◌<◌, ◌≤◌, false, IsTrue, Option, List, [], ◌∷◌, Vec, Global, length, map, get_or, sym, ap, ◌∙◌, subst, inl, inr, arith, true≢false}
use Rattle.std.proofs.lemmas.Bool.{cases_lt}
use Rattle.std.specs.FinMap.{empty}
use Rattle.std.specs.List.{Contains}
use Rattle.ere_captures.proofs.BestLemmas.{not_less}
use Rattle.ere_places.specs.Seen.{is_held}
use Rattle.ere_places.specs.declared.seen.Seen.{Seen}
use Rattle.ere_relaxed.specs.Relaxed.{AreBytes, SpansAll}
use Rattle.ere_tree.specs.Captures.{Captures, caps_of}
use Rattle.ere_tree.specs.Derivation.{Way, Derives, Spans}
use Rattle.ere_tree.specs.Preference.{within}
use Rattle.ere_tree.specs.Shape.{greatest_group}
use Rattle.ere_tree.specs.Tree.{Tree}
use Rattle.ere_tree.specs.declared.hit.Cap.{Cap}
use Rattle.ere_refs.proofs.ListedLemmas.{head_best, none_over}
use Rattle.ere_refs.specs.Lists.{AreOver, Listed, ListsOver, lists_of}
use Rattle.ere_refs.specs.Over.{DerivesNone, IsBestTo}
use Rattle.ere_refs.specs.declared.trying.Found.{Found}

-- no derivation ends at a place of the last so many
abbrev pub Passed : List ℕ → Tree → ℕ → ℕ → ℕ → Type 0
Passed s t i m back = (k : ℕ) (v : Way) (d : Captures) → m < k + back → k ≤ m → Derives s t v i k empty d → ⊥

pub passed_more : (s : List ℕ) (t : Tree) (i m back : ℕ) → back ≤ m → Passed s t i m back
    → DerivesNone s t i (m - back) empty → Passed s t i m (back + 1)
passed_more s t i m back fits before here k v d low high shows =
    elim (cases_lt m (k + back)) [
      | inl earlier ↦ before k v d earlier high shows
      | inr later ↦
          let same : k ≡ m - back = omega (arith, low, later, fits) in
          here v d (subst (λ n. Derives s t v i n empty d) same shows)
    ]

-- a place at which the expression without references doesn't end
pub no_end : (s : List ℕ) (t free : Tree) (i m k : ℕ) (seen : Seen) → AreBytes s → SpansAll t free
    → ((q : ℕ) → IsTrue (is_held seen q) ↔ (Spans s free i q × (q ≤ m))) → is_held seen k ≡ false → k ≤ m
    → DerivesNone s t i k empty
no_end s t free i m k seen bytes spans are unheld high v d shows =
    true≢false (sym ((are k).1 (spans s v i k d bytes shows, high)) ∙ unheld)

-- of the lists behind a span, the first is that of a way to which none is preferred
pub best_to : (s : List ℕ) (t : Tree) (start i m back count : ℕ) (old : List (Option Cap)) (held : Vec (Option Cap) Global)
    (others : List (Vec (Option Cap) Global)) (found : Found) → count ≡ greatest_group t → old ≡ caps_of start empty count
    → Passed s t i m back → m ≤ found.to + back → ListsOver s t start i found.to count (Contains []) old (held ∷ others)
    → found.groups ≡ held.items → IsBestTo s t start i m found
best_to s t start i m back count old held others found all is passed next lists same = first (lists empty is)
  where
    first : (listed : Listed) × AreOver s t i found.to empty (Contains []) listed
        × (map (λ one. one.items) (held ∷ others) ≡ lists_of start count listed) → IsBestTo s t start i m found
    first ([], over, held_is) = let long = ap length held_is in absurd (omega (arith, long))
    first (x ∷ xs, over, held_is) = record {
      way = x.0;
      captures = x.1;
      shows = over.each.0;
      preferred = λ k v d high shows less. elim (cases_lt found.to k) [
        | inl later ↦ passed k v d (omega (arith, later, next)) high shows
        | inr not_later ↦
            not_less found.to k (within v x.0) not_later
            (λ at. head_best s t i found.to empty (Contains []) x xs over v d (subst (λ n. Derives s t v i n empty d) at shows)) less
      ];
      are = same ∙ ap (λ zs. get_or zs 0 []) held_is ∙ ap (caps_of start x.1) all;
    }

-- where there is no list, nothing derives the span
pub none_from : (s : List ℕ) (t : Tree) (start i j count : ℕ) (old : List (Option Cap)) (c : Captures)
    → old ≡ caps_of start c count → ListsOver s t start i j count (Contains []) old [] → DerivesNone s t i j c
none_from s t start i j count old c is lists = none (lists c is)
  where
    none : (listed : Listed) × AreOver s t i j c (Contains []) listed
        × (map (λ (one : Vec (Option Cap) Global). one.items) [] ≡ lists_of start count listed) → DerivesNone s t i j c
    none ([], over, held_is) = none_over s t i j c (Contains []) over
    none (x ∷ xs, over, held_is) = let long = ap length held_is in absurd (omega (arith, long))
