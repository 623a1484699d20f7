-- Walks along groups, and along trees one behind the other. What a walk along the first tree tells, and one along those
-- behind it, makes what a walk along all of them tells: the first has one end before what follows can begin.
-- The hard one is `join`.
use Rattle.std.proofs.Common.{◌≡◌, ℕ, ◌+◌, ◌<◌, ◌≤◌, List, length, map, drop, slice_index_or, refl, sym, ap, ◌∙◌, subst}
use Rattle.std.proofs.lemmas.List.{drop_more, drop_all}
use Rattle.std.specs.FinMap.{empty, insert}
use Rattle.ere_tree.specs.Tree.{Tree, Trees, cat, group, none, then, trees_of}
use Rattle.ere_tree.specs.Derivation.{parts, inside, done, next, Spans}
use Rattle.ere_tree.proofs.DerivationLemmas.{is_part}
use Rattle.ere_tree.proofs.PartsLemmas.{cat_out, all_out, none_out, group_out}
use Rattle.ere_tree.specs.View.{view}
use Rattle.ere_tree.specs.declared.ere.Ere.{Ere}
use Rattle.ere_one.specs.Walk.{Tells, TellsLongest, IsOnlyEnd, IfEnds, Admits, AlwaysSpans, BeginsAs, Precedes}
use Rattle.ere_one.proofs.LeafLemmas.{one_end, no_end}
use Rattle.ere_one.specs.declared.follow.Follow.{Follow}
use Rattle.ere_one.specs.declared.follow.Follow.TheVariants.{End, Byte, Any}
use Rattle.ere_one.specs.declared.walking.Walked.{Walked}
use Rattle.ere_one.specs.declared.walking.Walked.TheVariants.{Ends, Nowhere, Unknown}

pub end_within : (s : List ℕ) (t : Tree) (i j : ℕ) → Spans s t i j → (i ≤ j) × (j ≤ length s)
end_within s t i j (w, c, d, h) = is_part s t w i j c d h

-- GROUPS

group_inner : (s : List ℕ) (number : ℕ) (t : Tree) (i j : ℕ) → Spans s (group number t) i j → Spans s t i j
group_inner s number t i j (w, c, d, h) = let r = group_out s number t w i j c d h in (r.0, c, r.1, r.2)

pub group_begins : (number : ℕ) (t : Tree) (follow : Follow) → BeginsAs follow t → BeginsAs follow (group number t)
group_begins number t End begins = begins
group_begins number t (Byte b) begins = λ s i j span. begins s i j (group_inner s number t i j span)
group_begins number t Any begins = begins

pub told_group : (s : List ℕ) (number : ℕ) (t : Tree) (follow : Follow) (at : ℕ) (r : Walked) → Tells s t follow at r
    → Tells s (group number t) follow at r
told_group s number t follow at r told = record {
  spans = outer r told.spans;
  only = λ k span. told.only k (group_inner s number t at k span);
}
  where
    outer : (r : Walked) → IfEnds r (AlwaysSpans s t at) → IfEnds r (AlwaysSpans s (group number t) at)
    outer (Ends end) spans = λ c. let r = spans c in (inside r.0, insert r.1 number (at, end), (r.1, r.2, refl))
    outer Nowhere spans = spans
    outer Unknown spans = spans

-- ONE BEHIND THE OTHER

-- a span of all is one of the first, and one of the others
first_and_rest : (s : List ℕ) (t : Tree) (ts : Trees) (i j : ℕ) → Spans s (cat (then t ts)) i j
    → (m : ℕ) × Spans s t i m × Spans s (cat ts) m j
first_and_rest s t ts i j (w, c, d, h) =
    let all = cat_out s (then t ts) w i j c d h in
    let r = all_out s t ts all.0 i j c d all.2 in
    (r.0, (r.2, c, r.1, r.4), (parts r.3, r.1, d, r.5))

none_stays : (s : List ℕ) (i j : ℕ) → Spans s (cat none) i j → j ≡ i
none_stays s i j (w, c, d, h) = let all = cat_out s none w i j c d h in (none_out s all.0 i j c d all.2).0

pub cat_begins : (t : Tree) (ts : Trees) (follow : Follow) → BeginsAs follow t → BeginsAs follow (cat (then t ts))
cat_begins t ts End begins = begins
cat_begins t ts (Byte b) begins = λ s i j span within.
    let r = first_and_rest s t ts i j span in begins s i r.0 r.1 within
cat_begins t ts Any begins = begins

-- an end before what begins so is the one that was told
one_before : (s : List ℕ) (t : Tree) (this : Follow) (end m j : ℕ) → BeginsAs this t → Admits s this (Ends end) m
    → Spans s t m j → m ≡ end
one_before s t End end m j begins admits span = absurd begins
one_before s t (Byte b) end m j begins admits span = admits (λ within. begins s m j span within)
one_before s t Any end m j begins admits span = admits

both_span : (s : List ℕ) (t : Tree) (ts : Trees) (i m j : ℕ) → AlwaysSpans s t i m → AlwaysSpans s (cat ts) m j
    → AlwaysSpans s (cat (then t ts)) i j
both_span s t ts i m j first rest c =
    let one = first c in
    let others = rest one.1 in
    let all = cat_out s ts others.0 m j one.1 others.1 others.2 in
    (parts (next m one.0 all.0), others.1, (one.1, one.2, all.2))

-- what is behind the first spans, all span
all_span : (s : List ℕ) (t : Tree) (ts : Trees) (at end : ℕ) (r : Walked) → AlwaysSpans s t at end
    → IfEnds r (AlwaysSpans s (cat ts) end) → IfEnds r (AlwaysSpans s (cat (then t ts)) at)
all_span s t ts at end (Ends last) first rest = both_span s t ts at end last first rest
all_span s t ts at end Nowhere first rest = rest
all_span s t ts at end Unknown first rest = rest

-- with trees behind it that begin as told
join_more : (s : List ℕ) (t u : Tree) (ts : Trees) (follow this : Follow) (at end : ℕ) (r : Walked) → BeginsAs this u
    → Tells s t this at (Ends end) → Tells s (cat (then u ts)) follow end r → Tells s (cat (then t (then u ts))) follow at r
join_more s t u ts follow this at end r begins first rest = record {
  spans = all_span s t (then u ts) at end r first.spans rest.spans;
  only = λ k span. rest.only k (behind k span);
}
  where
    behind : (k : ℕ) → Spans s (cat (then t (then u ts))) at k → Spans s (cat (then u ts)) end k
    behind k span =
        let r = first_and_rest s t (then u ts) at k span in
        let only = one_before s (cat (then u ts)) this end r.0 k (cat_begins u ts this begins) (first.only r.0 r.1) r.2 in
        subst (λ m. Spans s (cat (then u ts)) m k) only r.2

pub span_of : (s : List ℕ) (t : Tree) (i j : ℕ) → AlwaysSpans s t i j → Spans s t i j
span_of s t i j always = let r = always empty in (r.0, empty, r.1, r.2)

admits_none : (s : List ℕ) (follow : Follow) (k : ℕ) → Admits s follow Nowhere k → ⊥
admits_none s End k h = h
admits_none s (Byte b) k h = h
admits_none s Any k h = h

admits_all : (s : List ℕ) (follow : Follow) (k : ℕ) → Admits s follow Unknown k
admits_all s End k = tt
admits_all s (Byte b) k = tt
admits_all s Any k = tt

-- with nothing known behind them
pub told_only : (s : List ℕ) (t : Tree) (others : Trees) (this : Follow) (at end : ℕ) → Precedes Any this others
    → Tells s t this at (Ends end) → IsOnlyEnd s t others at end
told_only s t none this at end before told = λ k to span rest.
    subst (λ f. Admits s f (Ends end) k) before (told.only k span)
told_only s t (then u ts) this at end begins told = λ k to span rest.
    one_before s (cat (then u ts)) this end k to (cat_begins u ts this begins) (told.only k span) rest

-- with nothing behind it
join_last : (s : List ℕ) (t : Tree) (follow : Follow) (at end : ℕ) (r : Walked) → Tells s t follow at (Ends end)
    → Tells s (cat none) follow end r → Tells s (cat (then t none)) follow at r
join_last s t follow at end r first rest = record {
  spans = all_span s t none at end r first.spans rest.spans;
  only = λ k span.
      let two = first_and_rest s t none at k span in
      let lies = end_within s t at end (span_of s t at end first.spans) in
      let stays : k ≡ two.0 = none_stays s two.0 k two.2 in
      still r rest.spans (rest.only end (parts done, empty, empty, (refl, lies.1, refl))) k
      (subst (Admits s follow (Ends end)) (sym stays) (first.only two.0 two.1));
}
  where
    still : (r : Walked) → IfEnds r (AlwaysSpans s (cat none) end) → Admits s follow r end → (k : ℕ)
        → Admits s follow (Ends end) k → Admits s follow r k
    still (Ends last) spans there k admits =
        subst (λ n. Admits s follow (Ends n) k)
        (sym (none_stays s end last (span_of s (cat none) end last spans))) admits
    still Nowhere spans there k admits = absurd (admits_none s follow end there)
    still Unknown spans there k admits = admits_all s follow k

-- a walk along the first, and one along the others
pub join : (s : List ℕ) (t : Tree) (ts : Trees) (follow this : Follow) (at end : ℕ) (r : Walked)
    → Precedes follow this ts → Tells s t this at (Ends end) → Tells s (cat ts) follow end r
    → Tells s (cat (then t ts)) follow at r
join s t none follow this at end r before first rest =
    join_last s t follow at end r (subst (λ f. Tells s t f at (Ends end)) before first) rest
join s t (then u ts) follow this at end r before first rest =
    join_more s t u ts follow this at end r before first rest

none_first : (s : List ℕ) (t : Tree) (ts : Trees) (this follow : Follow) (at : ℕ) → Tells s t this at Nowhere
    → Tells s (cat (then t ts)) follow at Nowhere
none_first s t ts this follow at told =
    no_end s (cat (then t ts)) at follow (λ k span.
    let r = first_and_rest s t ts at k span in admits_none s this r.0 (told.only r.0 r.1))

-- A LIST OF EXPRESSIONS

-- those from a place of the list on are the one there and those behind it
from_place : (xs : List Ere) (i : ℕ) (one : Ere) → i < length xs → one ≡ slice_index_or xs i one
    → then (view one) (trees_of (map view (drop (i + 1) xs))) ≡ trees_of (map view (drop i xs))
from_place xs i one l is =
    ap (λ x. then (view x) (trees_of (map view (drop (i + 1) xs)))) is
    ∙ sym (ap (λ ys. trees_of (map view ys)) (drop_more xs i one l))

pub one_more : (s : List ℕ) (xs : List Ere) (i : ℕ) (one : Ere) (follow this : Follow) (at end : ℕ) (r : Walked)
    → i < length xs → one ≡ slice_index_or xs i one
    → Precedes follow this (trees_of (map view (drop (i + 1) xs))) → Tells s (view one) this at (Ends end)
    → Tells s (cat (trees_of (map view (drop (i + 1) xs)))) follow end r
    → Tells s (cat (trees_of (map view (drop i xs)))) follow at r
one_more s xs i one follow this at end r l is before first rest =
    subst (λ ts. Tells s (cat ts) follow at r) (from_place xs i one l is)
    (join s (view one) (trees_of (map view (drop (i + 1) xs))) follow this at end r before first rest)

pub none_there : (s : List ℕ) (xs : List Ere) (i : ℕ) (one : Ere) (follow this : Follow) (at : ℕ) → i < length xs
    → one ≡ slice_index_or xs i one → Tells s (view one) this at Nowhere
    → Tells s (cat (trees_of (map view (drop i xs)))) follow at Nowhere
none_there s xs i one follow this at l is told =
    subst (λ ts. Tells s (cat ts) follow at Nowhere) (from_place xs i one l is)
    (none_first s (view one) (trees_of (map view (drop (i + 1) xs))) this follow at told)

-- behind the last one nothing is left
pub none_left : (s : List ℕ) (xs : List Ere) (i : ℕ) (follow : Follow) (at : ℕ) → length xs ≤ i → at ≤ length s
    → Tells s (cat (trees_of (map view (drop i xs)))) follow at (Ends at)
none_left s xs i follow at l within =
    subst (λ ys. Tells s (cat (trees_of (map view ys))) follow at (Ends at)) (sym (drop_all i xs l))
    (one_end s (cat none) at at follow (λ c. (parts done, c, (refl, within, refl)))
    (λ k span. none_stays s at k span))

-- what is told with nothing behind
pub told_longest : (s : List ℕ) (t : Tree) (at : ℕ) (r : Walked) → Tells s t End at r → TellsLongest s t at r
told_longest s t at (Ends end) told = (span_of s t at end told.spans, told.only)
told_longest s t at Nowhere told = told.only
told_longest s t at Unknown told = tt
