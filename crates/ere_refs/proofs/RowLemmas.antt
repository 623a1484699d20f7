-- What follows a stage of a row, and what is read there: of parts and of members all that the stack of frames has to know.
-- By what is left of a row (RestLemmas), of which a part or a member is taken off or put in front.
-- The hard ones are `parts_next` and `members_next`.
use Rattle.std.proofs.Common.{◌≡◌, ℕ, zero, suc, ◌+◌, ◌-◌, ◌<◌, ◌≤◌, Bool, true, false, Option, Some, None, List, [], ◌∷◌, ◌++◌, Vec, Global, length, get_or, map, drop, refl, sym, ap, ◌∙◌, subst, ◌⊎◌, inl, inr, arith, true≢false}
use Rattle.std.proofs.lemmas.Bool.{and_parts, cases_lt}
use Rattle.std.proofs.lemmas.List.{get_or-map, get_or_append_left, length-map}
use Rattle.std.proofs.Math.Seq.{drop-cons, get_or-append_seam}
use Rattle.std.specs.List.{Contains}
use Rattle.std.specs.Option.{option_map}
use Rattle.std.specs.Prelude.{IfSome}
use Rattle.ere_tree.specs.Captures.{Captures}
use Rattle.ere_tree.specs.Derivation.{Ways, next, DerivesAll}
use Rattle.ere_tree.specs.Tree.{Tree, trees_of}
use Rattle.ere_tree.specs.View.{view}
use Rattle.ere_tree.specs.declared.ere.Ere.{Ere}
use Rattle.ere_refs.proofs.RestLemmas.{drop_next, members_fit, members_join, members_more, members_part, members_past, members_same, members_same_open, parts_fit, parts_join, parts_same}
use Rattle.ere_refs.specs.Course.{members_behind, parts_behind}
use Rattle.ere_refs.specs.Live.{ReadsBefore, reads, reads_all, surely_sets}
use Rattle.ere_refs.specs.Machine.{AreMemberLives, ArePartLives, IsAtEnd, IsFull, IsStage, NextFits, between}
use Rattle.ere_refs.specs.Refers.{Agree, all_refs_fit, refs_fit}

-- what stands at an index is an earlier one, or the last
pub pushed_at : {X : Type 0} (xs zs : List X) (y one : X) (k : ℕ) → zs ≡ xs ++ y ∷ [] → k < length xs + 1
    → one ≡ get_or zs k one → ((k < length xs) × (one ≡ get_or xs k one)) ⊎ ((k ≡ length xs) × (one ≡ y))
pushed_at xs zs y one k is low here = elim (cases_lt k (length xs)) [
  | inl before ↦
      inl (before, here ∙ ap (λ all. get_or all k one) is ∙ get_or_append_left xs (y ∷ []) one k before)
  | inr past ↦
      let last : k ≡ length xs = omega (arith, low, past) in
      inr (last, here ∙ (λ i. get_or (is i) (last i) one) ∙ get_or-append_seam xs y [] one)
]

-- the two of a list of two
pub two_at : {X : Type 0} (xs zs : List X) (y z : X) → xs ≡ y ∷ [] → zs ≡ xs ++ z ∷ []
    → ((one : X) → one ≡ get_or zs 0 one → one ≡ y) × ((one : X) → one ≡ get_or zs 1 one → one ≡ z)
two_at xs zs y z first second =
    let all : zs ≡ y ∷ z ∷ [] = second ∙ ap (λ all. all ++ z ∷ []) first in
    ((λ one is. is ∙ ap (λ all. get_or all 0 one) all), (λ one is. is ∙ ap (λ all. get_or all 1 one) all))

-- WHAT FOLLOWS A STAGE OF PARTS

pub sure_or_not : (b : Bool) → (b ≡ true) ⊎ (b ≡ false)
sure_or_not true = inl refl
sure_or_not false = inr refl

reads_before : (t : Tree) (Q : ℕ → Type 0) → ReadsBefore t (reads t Q) Q
reads_before t Q = record {
  refers = λ n r. inl r;
  stays = λ n q. elim (sure_or_not (surely_sets t n)) [
    | inl sure ↦ inr sure
    | inr not ↦ inl (inr (q, not))
  ];
}

module _ (all : List Ere) (live : List ℕ) where
  -- what is read from a stage on
  abbrev read_from : ℕ → ℕ → Type 0
  read_from k = reads_all (trees_of (drop k (map view all))) (Contains live)

  stage_reads : (k : ℕ) (t : Tree) (others : List Tree) → drop k (map view all) ≡ t ∷ others
      → ReadsBefore t (read_from k) (read_from (suc k))
  stage_reads k t others is =
      subst (λ us. ReadsBefore t (reads_all (trees_of us) (Contains live)) (read_from (suc k))) (sym is)
      (subst (λ us. ReadsBefore t (reads t (reads_all (trees_of others) (Contains live))) (reads_all (trees_of us) (Contains live)))
      (sym (drop_next (map view all) k t others is)) (reads_before t (reads_all (trees_of others) (Contains live))))

  last_reads : (k : ℕ) → drop k (map view all) ≡ [] → (g : ℕ) → Contains live g → read_from k g
  last_reads k is g has = subst (λ us. reads_all (trees_of us) (Contains live) g) (sym is) has

  stage_same : (lives : List (Vec ℕ Global)) → ArePartLives all lives live → (k : ℕ) (one : Vec ℕ Global) → k ≤ length all
      → one ≡ get_or lives k one → (s : List ℕ) (j p : ℕ) (b a e : Captures) (rs : Ways) → Agree (Contains one.items) b a
      → parts_behind s (map view all) j k rs p b e
      → (f : Captures) × parts_behind s (map view all) j k rs p a f × Agree (Contains live) e f
  stage_same lives are k one low is s j p b a e rs same rest =
      parts_same s (map view all) j (Contains live) read_from stage_reads last_reads (drop k (map view all)) k p refl rs b a e
      (λ g r. same g (are k one low is g r)) rest

  pub parts_next : (lives : List (Vec ℕ Global)) → ArePartLives all lives live → (n : ℕ) (ere : Ere)
      (before behind : Vec ℕ Global) → n < length all → ere ≡ get_or all n ere → before ≡ get_or lives n before
      → behind ≡ get_or lives (suc n) behind → (s : List ℕ) (p j : ℕ)
      → NextFits s (parts_behind s (map view all) j) (Contains live) n p j (view ere) false (suc n) before.items behind.items
  parts_next lives are n ere before behind low is first second s p j =
      let ts = map view all in
      let here : drop n ts ≡ view ere ∷ drop (suc n) ts =
      drop-cons ts n (view ere) (omega (arith, low, length-map all view))
      ∙ ap (λ t. t ∷ drop (suc n) ts) (get_or-map view all n ere (view ere) low ∙ ap view (sym is)) in
      record {
        fits = λ c e rs rest. parts_fit s ts j n p c (view ere) (drop (suc n) ts) here rs e rest;
        splits = λ c e k w rs rest.
            let h = subst (λ us. DerivesAll s (trees_of us) (next k w rs) p j c e) here rest in
            (h.0, h.1, (λ no. absurd (true≢false (sym no))), h.2);
        joins = λ c b e k w rs shows some rest. parts_join s ts j n p k c (view ere) here w b rs e shows rest;
        same_before = λ b a e rs same rest. stage_same lives are n before (omega (arith, low)) first s j p b a e rs same rest;
        same_behind = λ k b a e rs same rest.
            stage_same lives are (suc n) behind (omega (arith, low)) second s j k b a e rs same rest;
      }

-- WHAT FOLLOWS A STAGE OF MEMBERS

module _ (s : List ℕ) (t : Tree) (least : ℕ) (most : Option ℕ) (j : ℕ) where
  to_stage : (n m : ℕ) → IsStage least most n m → (rs : Ways) (p : ℕ) (c e : Captures)
      → members_behind s t least most j (suc n) rs p c e → members_behind s t least most j m rs p c e
  to_stage n m (inl (none, past, is)) rs p c e rest =
      subst (λ x. members_behind s t least most j x rs p c e) (sym is)
      (members_past s t least most j n none past rs p c e rest)
  to_stage n m (inr is) rs p c e rest = subst (λ x. members_behind s t least most j x rs p c e) (sym is) rest

  from_stage : (n m : ℕ) → IsStage least most n m → (rs : Ways) (p : ℕ) (c e : Captures)
      → members_behind s t least most j m rs p c e → members_behind s t least most j (suc n) rs p c e
  from_stage n m (inl (none, past, is)) rs p c e rest =
      members_more s t least most j n none past rs p c e
      (subst (λ x. members_behind s t least most j x rs p c e) is rest)
  from_stage n m (inr is) rs p c e rest = subst (λ x. members_behind s t least most j x rs p c e) is rest

  pub members_next : (lives : List (Vec ℕ Global)) (live : List ℕ) → AreMemberLives t lives live → (n m p : ℕ) (further : Bool)
      (before behind : Vec ℕ Global) → (further ≡ true → least ≤ n) → (least ≤ n → further ≡ true) → IfSome most (λ x. n < x)
      → IsStage least most n m → (p < j) ⊎ (n < least) → before ≡ get_or lives 0 before → behind ≡ get_or lives 1 behind
      → NextFits s (members_behind s t least most j) (Contains live) n p j t further m before.items behind.items
  members_next lives live are n m p further before behind past enough some stage more first second = record {
    fits = λ c e rs rest. members_fit s t least most j n p c more rs e rest;
    splits = λ c e k w rs rest.
        let one = members_part s t least most j n p k c e w rs rest in
        (one.0, one.1, (λ yes. one.2 (past yes)), to_stage n m stage rs k one.0 e one.3);
    joins = λ c b e k w rs shows further_on rest.
        members_join s t least most j n p k c some (λ low. further_on (enough low)) w b rs e shows
        (from_stage n m stage rs k b e rest);
    same_before = λ b a e rs same rest.
        members_same_open s t least most j (Contains live) (between t live) (reads t (between t live)) n p more
        (reads_before t (between t live)) (λ g r. inl r) (λ g has. inr has) rs b a e (λ g r. same g (are.0 before first g r)) rest;
    same_behind = λ k b a e rs same rest.
        members_same s t least most j (Contains live) (between t live) (λ g r. inl r) (λ g has. inr has) m k rs b a e
        (λ g r. same g (are.1 behind second g r)) rest;
  }

-- EACH OF SOME EXPRESSIONS

pub refs_at : (count : ℕ) (items : List Ere) (k : ℕ) (one : Ere) → k < length items → one ≡ get_or items k one
    → all_refs_fit count (trees_of (map view items)) ≡ true → refs_fit count (view one) ≡ true
refs_at count [] k one low is all = absurd (omega (arith, low))
refs_at count (e ∷ items) zero one low is all =
    ap (λ x. refs_fit count (view x)) is ∙ (and_parts (refs_fit count (view e)) _ all).0
refs_at count (e ∷ items) (suc k) one low is all =
    refs_at count items k one (omega (arith, low)) is (and_parts (refs_fit count (view e)) _ all).1

pub not_full : (most : Option ℕ) (n : ℕ) (answer : Bool) → IsFull most n answer → answer ≡ false → IfSome most (λ m. n < m)
not_full None n answer full e = tt
not_full (Some most) n answer full e = full.1 e

pub full_at : (most : Option ℕ) (n : ℕ) (answer : Bool) → IsFull most n answer → answer ≡ true
    → (m : ℕ) × (most ≡ Some m) × (m ≤ n)
full_at None n answer full e = absurd (true≢false (sym e ∙ full))
full_at (Some most) n answer full e = (most, refl, full.0 e)

pub short_of : (at_end : Bool) (p j : ℕ) → IsAtEnd at_end p j → at_end ≡ false → p < j
short_of false p j at e = at
short_of true p j at e = absurd (true≢false e)

pub some_left : (most : Option ℕ) (n : ℕ) → IfSome (option_map (λ m. m - n) most) (λ x. 0 ≤ x)
some_left None n = tt
some_left (Some most) n = omega arith
