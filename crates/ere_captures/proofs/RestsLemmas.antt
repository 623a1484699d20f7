-- The places from which the last parts of a concatenation lead to its end, one part more at a time.
-- A part more stands before the others, so its starts are those that lead to a place of the set before.
-- The hard one is `rest_more`; the rest is what a list of such sets holds when one is pushed.
use Rattle.std.proofs.Common.{◌≡◌, ◌↔◌, ℕ, ◌+◌, ◌≤◌, List, [], ◌∷◌, ◌++◌, length, drop, get_or, sym, ap, ◌∙◌, subst, inl, inr, arith}
use Rattle.std.specs.List.{Contains}
use Rattle.std.proofs.lemmas.Bool.{cases_lt}
use Rattle.std.proofs.lemmas.List.{drop_all}
use Rattle.std.proofs.Math.ListN.{get_or-append}
use Rattle.std.proofs.Math.Seq.{get_or-append_seam}
use Rattle.ere_tree.specs.Tree.{Tree}
use Rattle.ere_places.specs.declared.seen.Seen.{Seen}
use Rattle.ere_places.specs.declared.window.Direction.TheVariants.{Back}
use Rattle.ere_places.specs.Places.{LeadsInside, AreReached, SpanAll}
use Rattle.ere_places.proofs.SpanLemmas.{spans_part, all_part}
use Rattle.ere_captures.specs.Walk.{LeadOn}
use Rattle.ere_captures.proofs.GreatestLemmas.{only_one, the_one}

-- these are the places from which the trees lead to j
abbrev pub AreRest : List ℕ → List Tree → ℕ → ℕ → List ℕ → Type 0
AreRest s ts i j places = (q : ℕ) → Contains places q ↔ (SpanAll s ts q j × (i ≤ q))

pub rest_first : (s : List ℕ) (ts : List Tree) (n i j : ℕ) → length ts ≤ n → i ≤ j → j ≤ length s
    → AreRest s (drop n ts) i j (j ∷ [])
rest_first s ts n i j past order within =
    subst (λ (us : List Tree). AreRest s us i j (j ∷ [])) (sym (drop_all n ts past)) (λ q. (
      λ has. let same = only_one j q has in
          ((sym same, omega (arith, same, within)), omega (arith, same, order)),
      λ h. subst (Contains (j ∷ [])) h.0.0 (the_one j),
    ))

pub rest_more : (s : List ℕ) (t : Tree) (ts us : List Tree) (i j : ℕ) (now new : List ℕ) → us ≡ t ∷ ts
    → AreRest s ts i j now
    → AreReached (LeadsInside s t (record { low = i; high = j; direction = Back })) now new
    → AreRest s us i j new
rest_more s t ts us i j now new is known reached =
    subst (λ (xs : List Tree). AreRest s xs i j new) (sym is) (λ q. (
      λ has. let r = (reached q).0 has in
          let rest = (known r.0).0 r.1 in
          ((r.0, r.2.0, rest.0), r.2.1.0),
      λ h. let lies = spans_part s t q h.0.0 h.0.1 in
          (reached q).1 (
            h.0.0,
            (known h.0.0).1 (h.0.2, omega (arith, h.1, lies.0)),
            (h.0.1, (h.1, omega (arith, lies.0, all_part s ts h.0.0 j h.0.2))),
          ),
    ))

-- the sets so far, and one more
abbrev pub EachLeads : List ℕ → (ℕ → List Tree) → ℕ → ℕ → ℕ → List Seen → Type 0
EachLeads s behind i j count all =
    (m : ℕ) (one : Seen) → m ≤ count → one ≡ get_or all m one → LeadOn s (behind m) i j one

pub each_push : (s : List ℕ) (behind : ℕ → List Tree) (i j count : ℕ) (all : List Seen) (last : Seen)
    → length all ≡ count + 1 → EachLeads s behind i j count all → LeadOn s (behind (count + 1)) i j last
    → EachLeads s behind i j (count + 1) (all ++ last ∷ [])
each_push s behind i j count all last long known here m one fits is = elim (cases_lt m (length all)) [
  | inl before ↦ known m one (omega (arith, long, before)) (is ∙ get_or-append all (last ∷ []) one m before)
  | inr at ↦
      let place : m ≡ length all = omega (arith, long, at, fits) in
      let same : one ≡ last =
      is ∙ ap (λ n. get_or (all ++ last ∷ []) n one) place ∙ get_or-append_seam all last [] one in
      let count_is : count + 1 ≡ m = omega (arith, long, place) in
      subst (λ (x : Seen). LeadOn s (behind m) i j x) (sym same)
      (subst (λ n. LeadOn s (behind n) i j last) count_is here)
]

-- the first set
pub each_first : (s : List ℕ) (behind : ℕ → List Tree) (i j : ℕ) (last : Seen) → LeadOn s (behind 0) i j last
    → EachLeads s behind i j 0 (last ∷ [])
each_first s behind i j last here m one fits is =
    let none : m ≡ 0 = omega arith in
    let same : one ≡ last = is ∙ ap (λ n. get_or (last ∷ []) n one) none in
    subst (λ (x : Seen). LeadOn s (behind m) i j x) (sym same)
    (subst (λ n. LeadOn s (behind n) i j last) (sym none) here)
