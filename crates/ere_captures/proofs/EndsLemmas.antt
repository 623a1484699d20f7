-- The greatest end of a part from which the others lead on: the only one, or the greatest that is in the others' set.
-- The sets of a list of parts are also those of the parts behind the first.
-- `greatest_is_end` is the hard one: a set has only the places from `low` on, and no end lies before.
use Rattle.std.proofs.Common.{◌≡◌, ℕ, suc, ◌-◌, ◌≤◌, false, List, [], ◌∷◌, length, map, drop, Vec, refl, sym, subst, arith}
use Rattle.std.specs.Prelude.{◌<◌, IsTrue, slice_index_or, vec_len}
use Rattle.std.specs.declared.alloc.Global.{Global}
use Rattle.ere_tree.specs.Derivation.{Spans}
use Rattle.ere_tree.specs.Shape.{any_has_refs}
use Rattle.ere_tree.specs.Tree.{Tree, trees_of}
use Rattle.ere_tree.specs.View.{view}
use Rattle.ere_tree.specs.declared.ere.Ere.{Ere}
use Rattle.ere_one.specs.Walk.{IsOnlyEnd}
use Rattle.ere_places.specs.Places.{SpanAll}
use Rattle.ere_places.specs.Seen.{is_held}
use Rattle.ere_places.specs.declared.seen.Seen.{Seen}
use Rattle.ere_places.proofs.SpanLemmas.{all_part, spans_cat, spans_part}
use Rattle.ere_captures.specs.Walk.{AreRests, IsGreatestEnd, IsPartEnd, LeadOn}

pub last_end : (s : List ℕ) (t : Tree) (others : List Ere) (i j : ℕ) → length others ≡ 0
    → SpanAll s (t ∷ map view others) i j → IsPartEnd s t (map view others) i j j
last_end s t [] i j none (k, first, rest) =
    subst (λ m. IsPartEnd s t [] i m m) (sym rest.0) (first, (refl, rest.1), λ q span over. omega (arith, over.0))
last_end s t (one ∷ others) i j none span = absurd (omega arith)

pub only_is_greatest : (s : List ℕ) (t : Tree) (ts : List Tree) (i j end : ℕ) → any_has_refs (trees_of ts) ≡ false
    → SpanAll s (t ∷ ts) i j → IsOnlyEnd s t (trees_of ts) i end → IsPartEnd s t ts i j end
only_is_greatest s t ts i j end free (k, first, rest) only =
    subst (IsPartEnd s t ts i j) (is k first rest) (
      first,
      rest,
      λ q span behind.
          omega (arith, is q span behind, is k first rest),
    )
  where
    is : (q : ℕ) → Spans s t i q → SpanAll s ts q j → q ≡ end
    is q span behind = only q j span ((spans_cat s ts q j free).1 behind)

-- the set for all of the parts
pub all_lead : (s : List ℕ) (items : List Ere) (i j : ℕ) (all : Vec Seen Global) (seen : Seen) → AreRests s items i j all
    → length items < vec_len all → seen ≡ slice_index_or all.items (length items) seen
    → LeadOn s (map view items) i j seen
all_lead s items i j all seen rests low is =
    let none : length items - length items ≡ 0 = omega arith in
    subst (λ q. LeadOn s (drop q (map view items)) i j seen) none (rests (length items) seen (omega arith) low is)

pub rests_behind : (s : List ℕ) (one : Ere) (others : List Ere) (i j : ℕ) (all : Vec Seen Global)
    → AreRests s (one ∷ others) i j all → AreRests s others i j all
rests_behind s one others i j all rests m seen fits low is =
    let less : length (one ∷ others) - m ≡ suc (length others - m) = omega arith in
    subst (λ q. LeadOn s (drop q (map view (one ∷ others))) i j seen) less (rests m seen (omega arith) low is)

pub in_set : (s : List ℕ) (t : Tree) (ts : List Tree) (low i j : ℕ) (seen : Seen) → LeadOn s ts low j seen → low ≤ i
    → SpanAll s (t ∷ ts) i j → (k : ℕ) × Spans s t i k × (k ≤ j) × IsTrue (is_held seen k)
in_set s t ts low i j seen lead order (k, first, rest) =
    (k, first, all_part s ts k j rest, (lead k).1 (rest, omega (arith, order, (spans_part s t i k first).0)))

-- what is greatest in the others' set is the greatest from which they lead on
pub greatest_is_end : (s : List ℕ) (t : Tree) (ts : List Tree) (low i j : ℕ) (seen : Seen) → LeadOn s ts low j seen
    → low ≤ i → (m : ℕ) → IsGreatestEnd s t seen i j m → IsPartEnd s t ts i j m
greatest_is_end s t ts low i j seen lead order m h = (
  h.0,
  ((lead m).0 h.2).0,
  λ k span behind. h.3 k span (all_part s ts k j behind)
      ((lead k).1 (behind, omega (arith, order, (spans_part s t i k span).0))),
)
