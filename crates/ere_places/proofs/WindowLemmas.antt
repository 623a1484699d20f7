-- What a tree leads to inside a window, in terms of what is inside it.
-- Places between two places of the window lie in it, so each step of the code stays inside. Back from an end, parts
-- and members come in the reverse order. The hard ones are `cat_back`, over the reversed list, and `repeat_steps`.
use Rattle.std.proofs.Common.{◌≡◌, ◌↔◌, ℕ, zero, suc, ◌+◌, ◌-◌, ◌<◌, ◌≤◌, Bool, true, false, Option, Some, None, List, [], ◌∷◌, ◌++◌, length, reverse, nat_lt, if◌then◌else◌, refl, sym, subst, inl, inr, arith}
use Rattle.std.proofs.lemmas.List.{reverse-append}
use Rattle.std.proofs.lemmas.Bool.Decides.{nat_tests}
use Rattle.ere_tree.specs.Derivation.{CanRepeat, Spans}
use Rattle.ere_tree.specs.Shape.{has_refs, any_has_refs}
use Rattle.ere_tree.specs.Tree.{Tree, cat, alt, repeat, group, trees_of}
use Rattle.std.proofs.lemmas.Option.{none-some}
use Rattle.ere_tree.proofs.CapturesLemmas.{some_same}
use Rattle.ere_places.specs.declared.window.Direction.{Direction}
use Rattle.ere_places.specs.declared.window.Direction.TheVariants.{Ahead, Back}
use Rattle.ere_places.specs.declared.window.Window.{Window}
use Rattle.ere_places.specs.Places.{IsInside, Leads, LeadsInside, SpanAll, SpanOne}
use Rattle.ere_places.specs.Steps.{Chain, ChainUpTo, Through, ByOne, in_order, further_members}
use Rattle.ere_places.proofs.SpanLemmas.{spans_part, all_part, spans_cat, spans_alt, spans_group, spans_repeat, repeat_spans}
use Rattle.ere_places.proofs.StepsLemmas.{chain_append, chain_split, chain_map, chain_turned}

-- the window with one direction
abbrev At : Window → Direction → Window
At window direction = record window { direction = direction }

-- PARTS

cat_ahead : (s : List ℕ) (window : Window) (ts : List Tree) (p q : ℕ) → IsInside window p
    → SpanAll s ts p q → IsInside window q → Through s (At window Ahead) ts p q
cat_ahead s window [] p q inside h within = sym h.0
cat_ahead s window (t ∷ ts) p q inside (k, first, rest) within =
    let lies = spans_part s t p k first in
    let end = all_part s ts k q rest in
    let here : IsInside window k = (omega (arith, inside.0, lies.0), omega (arith, end, within.1)) in
    (k, (first, here), cat_ahead s window ts k q here rest within)

ahead_cat : (s : List ℕ) (window : Window) (ts : List Tree) (p q : ℕ) → window.high ≤ length s → IsInside window p
    → Through s (At window Ahead) ts p q → SpanAll s ts p q × IsInside window q
ahead_cat s window [] p q fits inside h =
    ((sym h, omega (arith, inside.1)), subst (IsInside window) h inside)
ahead_cat s window (t ∷ ts) p q fits inside (r, first, rest) =
    let others = ahead_cat s window ts r q fits first.1 rest in
    ((r, first.0, others.0), others.1)

-- one part more behind those that are gone through
through_push : (s : List ℕ) (window : Window) (ts : List Tree) (t : Tree) (p m q : ℕ) → Through s window ts p m
    → LeadsInside s t window m q → Through s window (ts ++ t ∷ []) p q
through_push s window [] t p m q h last = (q, subst (λ x. LeadsInside s t window x q) (sym h) last, refl)
through_push s window (u ∷ ts) t p m q (r, first, rest) last =
    (r, first, through_push s window ts t r m q rest last)

through_last : (s : List ℕ) (window : Window) (ts : List Tree) (t : Tree) (p q : ℕ)
    → Through s window (ts ++ t ∷ []) p q → (m : ℕ) × Through s window ts p m × LeadsInside s t window m q
through_last s window [] t p q (r, first, rest) =
    (p, refl, subst (LeadsInside s t window p) rest first)
through_last s window (u ∷ ts) t p q (r, first, rest) =
    let l = through_last s window ts t r q rest in (l.0, (r, first, l.1), l.2)

cat_back : (s : List ℕ) (window : Window) (ts : List Tree) (p q : ℕ) → IsInside window p → SpanAll s ts q p
    → IsInside window q → Through s (At window Back) (reverse ts) p q
cat_back s window [] p q inside h within = h.0
cat_back s window (t ∷ ts) p q inside (k, first, rest) within =
    let lies = spans_part s t q k first in
    let end = all_part s ts k p rest in
    let here : IsInside window k = (omega (arith, within.0, lies.0), omega (arith, end, inside.1)) in
    subst (λ (us : List Tree). Through s (At window Back) us p q) (sym (reverse-append (t ∷ []) ts))
    (through_push s (At window Back) (reverse ts) t p k q (cat_back s window ts p k inside rest here)
    (first, within))

back_cat : (s : List ℕ) (window : Window) (ts : List Tree) (p q : ℕ) → window.high ≤ length s → IsInside window p
    → Through s (At window Back) (reverse ts) p q → SpanAll s ts q p × IsInside window q
back_cat s window [] p q fits inside h =
    ((h, omega (arith, inside.1, h)), subst (IsInside window) h inside)
back_cat s window (t ∷ ts) p q fits inside h =
    let l = through_last s (At window Back) (reverse ts) t p q
    (subst (λ (us : List Tree). Through s (At window Back) us p q) (reverse-append (t ∷ []) ts) h) in
    let others = back_cat s window ts p l.0 fits inside l.1 in
    ((l.0, l.2.0, others.0), l.2.1)

-- through the parts in the order of the direction
pub cat_steps : (s : List ℕ) (window : Window) (ts : List Tree) (p q : ℕ) → any_has_refs (trees_of ts) ≡ false
    → window.high ≤ length s → IsInside window p
    → LeadsInside s (cat (trees_of ts)) window p q ↔ Through s window (in_order window.direction ts) p q
cat_steps s window ts p q r fits inside = each window.direction
  where
    each : (d : Direction) → (Leads s (cat (trees_of ts)) d p q × IsInside window q)
        ↔ Through s (At window d) (in_order d ts) p q
    each Ahead = (
      λ h. cat_ahead s window ts p q inside ((spans_cat s ts p q r).0 h.0) h.1,
      λ h. let all = ahead_cat s window ts p q fits inside h in ((spans_cat s ts p q r).1 all.0, all.1),
    )
    each Back = (
      λ h. cat_back s window ts p q inside ((spans_cat s ts q p r).0 h.0) h.1,
      λ h. let all = back_cat s window ts p q fits inside h in ((spans_cat s ts q p r).1 all.0, all.1),
    )

-- ALTERNATIVES

one_ahead : (s : List ℕ) (window : Window) (ts : List Tree) (p q : ℕ) → SpanOne s ts p q → IsInside window q
    → ByOne s (At window Ahead) ts p q
one_ahead s window [] p q h within = h
one_ahead s window (t ∷ ts) p q (inl h) within = inl (h, within)
one_ahead s window (t ∷ ts) p q (inr h) within = inr (one_ahead s window ts p q h within)

ahead_one : (s : List ℕ) (window : Window) (ts : List Tree) (p q : ℕ) → ByOne s (At window Ahead) ts p q
    → SpanOne s ts p q × IsInside window q
ahead_one s window [] p q h = absurd h
ahead_one s window (t ∷ ts) p q (inl h) = (inl h.0, h.1)
ahead_one s window (t ∷ ts) p q (inr h) = let r = ahead_one s window ts p q h in (inr r.0, r.1)

one_back : (s : List ℕ) (window : Window) (ts : List Tree) (p q : ℕ) → SpanOne s ts q p → IsInside window q
    → ByOne s (At window Back) ts p q
one_back s window [] p q h within = h
one_back s window (t ∷ ts) p q (inl h) within = inl (h, within)
one_back s window (t ∷ ts) p q (inr h) within = inr (one_back s window ts p q h within)

back_one : (s : List ℕ) (window : Window) (ts : List Tree) (p q : ℕ) → ByOne s (At window Back) ts p q
    → SpanOne s ts q p × IsInside window q
back_one s window [] p q h = absurd h
back_one s window (t ∷ ts) p q (inl h) = (inl h.0, h.1)
back_one s window (t ∷ ts) p q (inr h) = let r = back_one s window ts p q h in (inr r.0, r.1)

pub alt_steps : (s : List ℕ) (window : Window) (ts : List Tree) (p q : ℕ)
    → LeadsInside s (alt (trees_of ts)) window p q ↔ ByOne s window ts p q
alt_steps s window ts p q = each window.direction
  where
    each : (d : Direction) → (Leads s (alt (trees_of ts)) d p q × IsInside window q) ↔ ByOne s (At window d) ts p q
    each Ahead = (
      λ h. one_ahead s window ts p q ((spans_alt s ts p q).0 h.0) h.1,
      λ h. let r = ahead_one s window ts p q h in ((spans_alt s ts p q).1 r.0, r.1),
    )
    each Back = (
      λ h. one_back s window ts p q ((spans_alt s ts q p).0 h.0) h.1,
      λ h. let r = back_one s window ts p q h in ((spans_alt s ts q p).1 r.0, r.1),
    )

-- A GROUP

pub group_steps : (s : List ℕ) (window : Window) (n : ℕ) (t : Tree) (p q : ℕ)
    → LeadsInside s (group n t) window p q ↔ LeadsInside s t window p q
group_steps s window n t p q = each window.direction
  where
    each : (d : Direction) → (Leads s (group n t) d p q × IsInside window q) ↔ (Leads s t d p q × IsInside window q)
    each Ahead = (λ h. ((spans_group s n t p q).0 h.0, h.1), λ h. ((spans_group s n t p q).1 h.0, h.1))
    each Back = (λ h. ((spans_group s n t q p).0 h.0, h.1), λ h. ((spans_group s n t q p).1 h.0, h.1))

-- MEMBERS

-- a chain of spans between two places of a window stays inside
chain_inside : (s : List ℕ) (window : Window) (t : Tree) (n p q : ℕ) → window.low ≤ p → q ≤ window.high
    → Chain (Spans s t) n p q → Chain (LeadsInside s t (At window Ahead)) n p q × (p ≤ q)
chain_inside s window t zero p q low high h = (h, omega (arith, h))
chain_inside s window t (suc n) p q low high (r, first, rest) =
    let lies = spans_part s t p r first in
    let others = chain_inside s window t n r q (omega (arith, low, lies.0)) high rest in (
      (r, (first, (omega (arith, low, lies.0), omega (arith, others.1, high))), others.0),
      omega (arith, lies.0, others.1),
    )

-- and can be gone back through
turned_back : (s : List ℕ) (window : Window) (t : Tree) (n p q : ℕ) → window.low ≤ q
    → p ≤ window.high → Chain (Spans s t) n q p → Chain (LeadsInside s t (At window Back)) n p q
turned_back s window t n p q low high h =
    chain_map (λ a b. Spans s t b a × (window.low ≤ b)) (LeadsInside s t (At window Back)) (λ a. a ≤ window.high)
    (λ a b here step. (
      (step.0, (step.1, omega (arith, here, (spans_part s t b a step.0).0))),
      omega (arith, here, (spans_part s t b a step.0).0),
    ))
    n p q high
    (chain_turned (λ a b. Spans s t a b × (window.low ≤ a)) (λ a b. Spans s t b a × (window.low ≤ b)) (λ a b step. step)
    n q p (chain_map (Spans s t) (λ a b. Spans s t a b × (window.low ≤ a)) (λ a. window.low ≤ a)
    (λ a b here step. ((step, here), omega (arith, here, (spans_part s t a b step).0))) n q p low h))

-- a chain in the direction is a chain of spans, and ends inside
chain_spans : (s : List ℕ) (window : Window) (t : Tree) (d : Direction) (n p q : ℕ) → IsInside window p
    → Chain (LeadsInside s t (At window d)) n p q → Chain (λ a b. Leads s t d a b) n p q × IsInside window q
chain_spans s window t d zero p q inside h = (h, subst (IsInside window) h inside)
chain_spans s window t d (suc n) p q inside (r, first, rest) =
    let others = chain_spans s window t d n r q first.1 rest in ((r, first.0, others.0), others.1)

-- so many members at least, and then up to so many
abbrev pub Members : (ℕ → ℕ → Type 0) → ℕ → ℕ → ℕ → ℕ → Type 0
Members R least more p q = (m : ℕ) × Chain R least p m × ChainUpTo R more m q

members_of_chain : (R : ℕ → ℕ → Type 0) (least more n p q : ℕ) → least ≤ n → n ≤ least + more → Chain R n p q
    → Members R least more p q
members_of_chain R least more n p q enough most h =
    let l = chain_split R least n p q enough h in
    (l.0, l.3, (l.1, omega (arith, l.2, most), l.4))

chain_of_members : (R : ℕ → ℕ → Type 0) (least more p q : ℕ) → Members R least more p q
    → (n : ℕ) × (least ≤ n) × (n ≤ least + more) × Chain R n p q
chain_of_members R least more p q (m, first, (k, fits, rest)) =
    let l = chain_append R least k p m q first rest in
    (l.0, omega (arith, l.1), omega (arith, l.1, fits), l.2)

-- the numbers of members that the bounds allow
most_fits : (least : ℕ) (most : Option ℕ) (width more n : ℕ) → further_members least most width ≡ Some more
    → CanRepeat least most n → n ≤ least + width → n ≤ least + more
most_fits least None width more n is fits high =
    let same : width ≡ more = some_same width more is in omega (arith, same)
most_fits least (Some most) width more n is fits high = each (nat_lt most least) refl is
  where
    each : (v : Bool) → nat_lt most least ≡ v → (if v then None else Some (most - least)) ≡ Some more
        → n ≤ least + more
    each true e same = absurd (none-some more same)
    each false e same =
        let more_is : most - least ≡ more = some_same (most - least) more same in
        omega (arith, more_is, fits.0, fits.1)

fits_most : (least : ℕ) (most : Option ℕ) (width more n : ℕ) → further_members least most width ≡ Some more
    → least ≤ n → n ≤ least + more → CanRepeat least most n
fits_most least None width more n is low high = (low, tt)
fits_most least (Some most) width more n is low high = each (nat_lt most least) refl is
  where
    each : (v : Bool) → nat_lt most least ≡ v → (if v then None else Some (most - least)) ≡ Some more
        → CanRepeat least (Some most) n
    each true e same = absurd (none-some more same)
    each false e same =
        let more_is : most - least ≡ more = some_same (most - least) more same in
        let bound : least ≤ most = grind (arith, nat_tests) in
        (low, omega (arith, more_is, bound, high))

pub repeat_steps : (s : List ℕ) (window : Window) (t : Tree) → has_refs t ≡ false → (least : ℕ) (most : Option ℕ)
    (more p q : ℕ) → further_members least most (window.high - window.low) ≡ Some more → window.high ≤ length s
    → IsInside window p
    → LeadsInside s (repeat t least most) window p q ↔ Members (LeadsInside s t window) least more p q
repeat_steps s window t r least most more p q is fits inside = each window.direction
  where
    width : ℕ
    width = window.high - window.low

    each : (d : Direction) → (Leads s (repeat t least most) d p q × IsInside window q)
        ↔ Members (LeadsInside s t (At window d)) least more p q
    each Ahead = (
      λ h. let n = spans_repeat s t least most p q h.0 in
          let chain = (chain_inside s window t n.0 p q inside.0 h.1.1 n.3).0 in
          members_of_chain (LeadsInside s t (At window Ahead)) least more n.0 p q n.1.0
          (most_fits least most (window.high - window.low) more n.0 is n.1
          (omega (arith, n.2, inside.0, h.1.1))) chain,
      λ h. let n = chain_of_members (LeadsInside s t (At window Ahead)) least more p q h in
          let c = chain_spans s window t Ahead n.0 p q inside n.3 in (
            repeat_spans s t r least most p q n.0 (omega (arith, inside.1, fits))
                (fits_most least most (window.high - window.low) more n.0 is n.1 n.2) c.0,
            c.1,
          ),
    )
    each Back = (
      λ h. let n = spans_repeat s t least most q p h.0 in
          let chain = turned_back s window t n.0 p q h.1.0 inside.1 n.3 in
          members_of_chain (LeadsInside s t (At window Back)) least more n.0 p q n.1.0
          (most_fits least most (window.high - window.low) more n.0 is n.1
          (omega (arith, n.2, inside.1, h.1.0))) chain,
      λ h. let n = chain_of_members (LeadsInside s t (At window Back)) least more p q h in
          let c = chain_spans s window t Back n.0 p q inside n.3 in
          let turned = chain_turned (λ a b. Spans s t b a) (Spans s t) (λ a b step. step) n.0 p q c.0 in (
            repeat_spans s t r least most q p n.0 (omega (arith, c.1.1, fits))
                (fits_most least most (window.high - window.low) more n.0 is n.1 n.2) turned,
            c.1,
          ),
    )

-- bounds out of order allow no number of members
pub repeat_nowhere : (s : List ℕ) (window : Window) (t : Tree) (least : ℕ) (most : Option ℕ) (width p q : ℕ)
    → further_members least most width ≡ None → LeadsInside s (repeat t least most) window p q → ⊥
repeat_nowhere s window t least most width p q is h = each window.direction h.0
  where
    never : (most : Option ℕ) (n : ℕ) → further_members least most width ≡ None → CanRepeat least most n → ⊥
    never None n is fits = none-some width (sym is)
    never (Some most) n is fits = told (nat_lt most least) refl is
      where
        told : (v : Bool) → nat_lt most least ≡ v → (if v then None else Some (most - least)) ≡ None → ⊥
        told true e same =
            let low : most < least = grind (arith, nat_tests) in absurd (omega (arith, fits.0, fits.1, low))
        told false e same = none-some (most - least) (sym same)

    each : (d : Direction) → Leads s (repeat t least most) d p q → ⊥
    each Ahead span = let n = spans_repeat s t least most p q span in never most n.0 is n.1
    each Back span = let n = spans_repeat s t least most q p span in never most n.0 is n.1
