-- The prefix that counts, prefix by prefix.
-- Shown: the value that is computed from the first prefix on counts before all others that stand, and is the only one.
-- By cases on whether the next one stands; the hard one is `meant_next`.
use Rattle.std.proofs.Common.{◌≡◌, ◌⊎◌, ℕ, zero, suc, ◌+◌, ◌<◌, ◌≤◌, Bool, true, false, List, [], ◌∷◌, Option, None, Some, cond, length, get_or, drop, refl, sym, subst, ◌∙◌, ap, inl, inr, arith, drop-cons, add-one, ⊎_elim}
use Rattle.std.proofs.lemmas.Bool.{cases_eq, cases_lt}
use Rattle.std.proofs.lemmas.Bool.Decides.{nat_tests}
use Rattle.std.proofs.lemmas.List.{drop_all}
use Rattle.std.specs.Prelude.{nat_lt}
use Rattle.tt_base.specs.Occurrence.{begins_with}
use Rattle.prefix_tree.specs.Prefix.{CountsBefore, IsMeant, Stands, meant, meant_from, taken}
use Rattle.prefix_tree.specs.declared.standing.Standing.{Standing}

-- of the prefixes below a number this one counts, or none stands
abbrev pub MeantBelow : List (List ℕ) → List ℕ → ℕ → Option Standing → Type 0
MeantBelow prefixes text limit None = (one : Standing) → one.index < limit → Stands prefixes text one → ⊥
MeantBelow prefixes text limit (Some best) =
    (best.index < limit) × Stands prefixes text best
    × ((one : Standing) → one.index < limit → Stands prefixes text one → CountsBefore best one)

below_or_at : (i k : ℕ) → i < k + 1 → (i < k) ⊎ (i ≡ k)
below_or_at i k below =
    ⊎_elim (λ (before : i < k). inl before) (λ (high : k ≤ i). inr (omega arith)) (cases_lt i k)

-- one that isn't shorter and comes first counts
counts : (one other : Standing) → other.length ≤ one.length → one.index ≤ other.index → CountsBefore one other
counts one other long first =
    ⊎_elim (λ (less : other.length < one.length). inl less)
    (λ (high : one.length ≤ other.length). inr (omega arith, first)) (cases_lt other.length one.length)

-- what counts isn't shorter
no_shorter : (one other : Standing) → CountsBefore one other → other.length ≤ one.length
no_shorter one other before = ⊎_elim (λ less. omega (arith, less)) (λ same. omega (arith, same.0)) before

module _ (prefixes : List (List ℕ)) (text : List ℕ) (k : ℕ) (inside : k < length prefixes) where
  here : begins_with text (get_or prefixes k []) ≡ true → Stands prefixes text (record { index = k; length = length (get_or prefixes k []) })
  here stands = record { within = inside; begins = stands; long = refl }

  -- one that stands at this number is this prefix
  at_this : (one : Standing) → one.index ≡ k → Stands prefixes text one
      → (one.length ≡ length (get_or prefixes k [])) × (begins_with text (get_or prefixes k []) ≡ true)
  at_this one at stands = (
    sym stands.long ∙ ap (λ i. length (get_or prefixes i [])) at,
    ap (λ i. begins_with text (get_or prefixes i [])) (sym at) ∙ stands.begins,
  )

  not_this : begins_with text (get_or prefixes k []) ≡ false → (one : Standing) → one.index ≡ k → Stands prefixes text one → ⊥
  not_this isnt one at stands = let both = at_this one at stands in differ (sym both.1 ∙ isnt)
    where
      differ : true ≡ false → ⊥
      differ same = cc

  longer : (best : Standing) (test : Bool) → nat_lt best.length (length (get_or prefixes k [])) ≡ test
      → begins_with text (get_or prefixes k []) ≡ true → MeantBelow prefixes text k (Some best)
      → MeantBelow prefixes text (k + 1)
      (cond test (Some (record { index = k; length = length (get_or prefixes k []) })) (Some best))
  longer best true test stands so_far = (
    omega arith,
    here stands,
    λ one below it. ⊎_elim
        (λ (before : one.index < k). let short = no_shorter best one (so_far.2 one before it) in
        let more : best.length < length (get_or prefixes k []) = grind (arith, nat_tests) in inl (omega arith))
        (λ (at : one.index ≡ k). let both = at_this one at it in inr (both.0, omega arith)) (below_or_at one.index k below),
  )
  longer best false test stands so_far = (
    omega (arith, so_far.0),
    so_far.1,
    λ one below it. ⊎_elim
        (λ (before : one.index < k). so_far.2 one before it)
        (λ (at : one.index ≡ k). let both = at_this one at it in
        let less : length (get_or prefixes k []) ≤ best.length = grind (arith, nat_tests) in
        counts best one (omega (arith, both.0)) (omega (arith, so_far.0))) (below_or_at one.index k below),
  )

  -- the next prefix is taken where it stands and is longer
  meant_next : (stands : Bool) (best : Option Standing) → begins_with text (get_or prefixes k []) ≡ stands
      → MeantBelow prefixes text k best
      → MeantBelow prefixes text (k + 1) (taken stands k (length (get_or prefixes k [])) best)
  meant_next false None isnt none =
      λ one below it. ⊎_elim (λ (before : one.index < k). none one before it)
      (λ (at : one.index ≡ k). not_this isnt one at it) (below_or_at one.index k below)
  meant_next true None stands none = (
    omega arith,
    here stands,
    λ one below it. ⊎_elim (λ (before : one.index < k). absurd (none one before it))
        (λ (at : one.index ≡ k). let both = at_this one at it in inr (both.0, omega arith)) (below_or_at one.index k below),
  )
  meant_next false (Some best) isnt so_far = (
    omega (arith, so_far.0),
    so_far.1,
    λ one below it. ⊎_elim (λ (before : one.index < k). so_far.2 one before it)
        (λ (at : one.index ≡ k). absurd (not_this isnt one at it)) (below_or_at one.index k below),
  )
  meant_next true (Some best) stands so_far =
      longer best (nat_lt best.length (length (get_or prefixes k []))) refl stands so_far

  -- what is taken so far, before the rest, is the whole
  pub from_next : (best : Option Standing) → meant_from text k (drop k prefixes) best
      ≡ meant_from text (k + 1) (drop (k + 1) prefixes)
      (taken (begins_with text (get_or prefixes k [])) k (length (get_or prefixes k [])) best)
  unfolding meant_from
  from_next best =
      ap (λ l. meant_from text k l best)
      (drop-cons prefixes k [] inside ∙ ap (λ n. get_or prefixes k [] ∷ drop n prefixes) (sym (add-one k)))

-- at the end each prefix was looked at
meant_all : (prefixes : List (List ℕ)) (text : List ℕ) (k : ℕ) (best : Option Standing) → length prefixes ≤ k
    → MeantBelow prefixes text k best → IsMeant prefixes text best
meant_all prefixes text k None ends none = λ one it. none one (omega (arith, it.within, ends)) it
meant_all prefixes text k (Some best) ends so_far =
    (so_far.1, λ one it. so_far.2 one (omega (arith, it.within, ends)) it)

pub from_end : (prefixes : List (List ℕ)) (text : List ℕ) (k : ℕ) (best : Option Standing) → length prefixes ≤ k
    → best ≡ meant_from text k (drop k prefixes) best
unfolding meant_from
from_end prefixes text k best ends = sym (ap (λ l. meant_from text k l best) (drop_all k prefixes ends))

meant_rest : (prefixes : List (List ℕ)) (text : List ℕ) (left k : ℕ) (best : Option Standing) → k + left ≡ length prefixes
    → MeantBelow prefixes text k best → IsMeant prefixes text (meant_from text k (drop k prefixes) best)
meant_rest prefixes text zero k best ends so_far =
    let all : length prefixes ≤ k = omega arith in
    subst (IsMeant prefixes text) (from_end prefixes text k best all) (meant_all prefixes text k best all so_far)
meant_rest prefixes text (suc left) k best ends so_far =
    let inside : k < length prefixes = omega arith in
    let ends : k + 1 + left ≡ length prefixes = omega arith in
    subst (IsMeant prefixes text) (sym (from_next prefixes text k inside best))
    (meant_rest prefixes text left (k + 1) _ ends
    (meant_next prefixes text k inside (begins_with text (get_or prefixes k [])) best refl so_far))

-- the value is the one that counts
pub meant_counts : (prefixes : List (List ℕ)) (text : List ℕ) → IsMeant prefixes text (meant prefixes text)
meant_counts prefixes text =
    meant_rest prefixes text (length prefixes) 0 None (omega arith) (λ one below it. absurd (none_below one below))
  where
    none_below : (one : Standing) → one.index < 0 → ⊥
    none_below one below = omega arith

same_standing : (one other : Standing) → one.index ≡ other.index → one.length ≡ other.length → one ≡ other
same_standing one other index long =
    ap (λ i. record { index = i; length = one.length }) index ∙ ap (λ n. record { index = other.index; length = n }) long

-- two that count before each other are one
pub meant_once : (prefixes : List (List ℕ)) (text : List ℕ) (one other : Option Standing) → IsMeant prefixes text one
    → IsMeant prefixes text other → one ≡ other
meant_once prefixes text None None first second = refl
meant_once prefixes text None (Some other) first second = absurd (first other second.0)
meant_once prefixes text (Some one) None first second = absurd (second one first.0)
meant_once prefixes text (Some one) (Some other) first second =
    let fore = first.1 other second.0 in
    let back = second.1 one first.0 in
    let long : one.length ≡ other.length = omega (arith, no_shorter one other fore, no_shorter other one back) in
    ap Some (same_standing one other (omega (arith, comes one other long fore, comes other one (sym long) back)) long)
  where
    comes : (one other : Standing) → one.length ≡ other.length → CountsBefore one other → one.index ≤ other.index
    comes one other long before =
        ⊎_elim (λ (less : other.length < one.length). absurd (apart less)) (λ same. same.1) before
      where
        apart : other.length < one.length → ⊥
        apart less = omega (arith, long)

-- two that aren't unequal are equal
pub stable : (one other : Option Standing) → ¬ (¬ (one ≡ other)) → one ≡ other
stable None None twice = refl
stable None (Some other) twice = absurd (twice apart)
  where
    apart : None ≡ Some other → ⊥
    apart same = cc
stable (Some one) None twice = absurd (twice apart)
  where
    apart : Some one ≡ None → ⊥
    apart same = cc
stable (Some one) (Some other) twice =
    ap Some (same_standing one other
    (at (λ s. s.index))
    (at (λ s. s.length)))
  where
    some : (a b : Standing) → Some a ≡ Some b → a ≡ b
    some a b same = cc

    at : (part : Standing → ℕ) → part one ≡ part other
    at part =
        ⊎_elim (λ (same : part one ≡ part other). same)
        (λ (apart : part one ≡ part other → ⊥). absurd (twice (λ same. apart (ap part (some one other same)))))
        (cases_eq (part one) (part other))

-- what is that value counts
pub counts_by_value : (prefixes : List (List ℕ)) (text : List ℕ) (found : Option Standing) → found ≡ meant prefixes text
    → IsMeant prefixes text found
counts_by_value prefixes text found is = subst (IsMeant prefixes text) (sym is) (meant_counts prefixes text)
