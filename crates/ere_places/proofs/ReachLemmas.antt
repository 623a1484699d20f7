-- Places that are reached from those of a list: lists that grow by a place, parts and members one behind the other,
-- alternatives, and the rounds in which the members of a repeat are added.
-- The hard one is `round_more`: what the places behind `done` lead to is added, and then the steps of all places up to
-- there are in the list.
use Rattle.std.proofs.Common.{◌≡◌, ◌↔◌, ℕ, zero, suc, ◌+◌, ◌-◌, ◌<◌, ◌≤◌, IsTrue, Option, Some, None, List, [], ◌∷◌, ◌++◌, length, map, take, drop, get_or, refl, sym, ap, ◌∙◌, subst, inl, inr, arith, false, drop-cons, add-one, length-take}
use Rattle.std.specs.Prelude.{◌⊎◌}
use Rattle.std.specs.List.{All, Contains}
use Rattle.std.proofs.lemmas.Bool.Decides.{nat_tests}
use Rattle.std.proofs.lemmas.List.{take_more, take_all, drop_all, take-append-drop, get_or-reverse, length-reverse, length-map}
use Rattle.std.proofs.Math.ListN.{get_or-map}
use Rattle.std.proofs.lemmas.List.Elements.{All-weaker, All-contains, All-contains_itself, Contains-append_left, Contains-append_right, Contains-append_cases, Contains-push, Contains-push_cases}
use Rattle.ere_tree.proofs.CapturesLemmas.{some_same}
use Rattle.ere_tree.proofs.FreeLemmas.{no_left, no_right}
use Rattle.ere_tree.specs.Shape.{has_refs, any_has_refs}
use Rattle.ere_tree.specs.View.{view}
use denote.Param.Weighed.{most, at_most}
use Rattle.ere_tree.proofs.ere.Ere.TheLaws.{the_size}
use Rattle.ere_tree.specs.declared.ere.Ere.{Ere}
use Rattle.ere_tree.specs.Tree.{Tree, cat, alt, repeat, trees_of}
use Rattle.ere_places.specs.declared.window.Direction.{Direction}
use Rattle.ere_places.specs.declared.window.Direction.TheVariants.{Ahead, Back}
use Rattle.ere_places.specs.declared.window.Window.{Window}
use Rattle.ere_places.specs.Places.{AreBoth, IsInside, Leads, LeadsInside, IsReached, AreReached}
use Rattle.ere_places.specs.Seen.{is_beyond}
use Rattle.ere_places.specs.Steps.{Chain, ChainUpTo, Through, ByOne, in_order, place_in, further_members}
use Rattle.ere_places.proofs.SpanLemmas.{spans_part}
use Rattle.ere_places.proofs.StepsLemmas.{chain_push, chain_last}
use Rattle.ere_places.proofs.WindowLemmas.{cat_steps, alt_steps, repeat_steps, repeat_nowhere}

-- one place more that something is reached from, or nothing
pub reached_push : (R : ℕ → ℕ → Type 0) (from found : List ℕ) (i end : ℕ) → i < length from
    → AreReached R (take i from) found → ((q : ℕ) → (Some end ≡ Some q) ↔ R (get_or from i 0) q)
    → AreReached R (take (i + 1) from) (found ++ end ∷ [])
reached_push R from found i end low known step q = (to, back)
  where
    more : take (i + 1) from ≡ take i from ++ get_or from i 0 ∷ []
    more = take_more from i 0 low

    to : Contains (found ++ end ∷ []) q → (p : ℕ) × Contains (take (i + 1) from) p × R p q
    to h = elim (Contains-push_cases found end q h) [
      | inl old ↦
          let r = (known q).0 old in (
            r.0,
            subst (λ (xs : List ℕ). Contains xs r.0) (sym more)
                (Contains-append_left (take i from) (get_or from i 0 ∷ []) r.0 r.1),
            r.2,
          )
      | inr same ↦ (
        get_or from i 0,
        subst (λ (xs : List ℕ). Contains xs (get_or from i 0)) (sym more)
            (Contains-push (take i from) (get_or from i 0)),
        (step q).0 (ap Some same),
      )
    ]

    back : (p : ℕ) × Contains (take (i + 1) from) p × R p q → Contains (found ++ end ∷ []) q
    back (p, has, r) =
        elim (Contains-push_cases (take i from) (get_or from i 0) p (subst (λ (xs : List ℕ). Contains xs p) more has)) [
          | inl old ↦ Contains-append_left found (end ∷ []) q ((known q).1 (p, old, r))
          | inr same ↦
              let last : end ≡ q = some_same end q ((step q).1 (subst (λ n. R n q) (sym same) r)) in
              subst (Contains (found ++ end ∷ [])) last (Contains-push found end)
        ]

pub reached_skip : (R : ℕ → ℕ → Type 0) (from found : List ℕ) (i : ℕ) → i < length from
    → AreReached R (take i from) found → ((q : ℕ) → R (get_or from i 0) q → ⊥)
    → AreReached R (take (i + 1) from) found
reached_skip R from found i low known step q = (to, back)
  where
    more : take (i + 1) from ≡ take i from ++ get_or from i 0 ∷ []
    more = take_more from i 0 low

    to : Contains found q → (p : ℕ) × Contains (take (i + 1) from) p × R p q
    to old =
        let r = (known q).0 old in (
          r.0,
          subst (λ (xs : List ℕ). Contains xs r.0) (sym more)
              (Contains-append_left (take i from) (get_or from i 0 ∷ []) r.0 r.1),
          r.2,
        )

    back : (p : ℕ) × Contains (take (i + 1) from) p × R p q → Contains found q
    back (p, has, r) =
        elim (Contains-push_cases (take i from) (get_or from i 0) p (subst (λ (xs : List ℕ). Contains xs p) more has)) [
          | inl old ↦ (known q).1 (p, old, r)
          | inr same ↦ absurd (step q (subst (λ n. R n q) (sym same) r))
        ]

pub reached_all : (R : ℕ → ℕ → Type 0) (from found : List ℕ) (i : ℕ) → length from ≤ i
    → AreReached R (take i from) found → AreReached R from found
reached_all R from found i past known = subst (λ (xs : List ℕ). AreReached R xs found) (take_all i from past) known

pub reached_none : (R : ℕ → ℕ → Type 0) → AreReached R [] []
reached_none R q = (λ h. absurd (omega (arith, h.1)), λ h. absurd (omega (arith, h.1.1)))

-- WHAT IS REACHED LIES IN THE WINDOW, AND BEYOND WHERE IT IS REACHED FROM

-- what holds of all that is in a list
pub all_each : (P : ℕ → Type 0) (xs : List ℕ) → ((q : ℕ) → Contains xs q → P q) → All P xs
all_each P xs each = All-weaker (Contains xs) P each xs (All-contains_itself xs)

pub reached_inside : (s : List ℕ) (t : Tree) (window : Window) (from found : List ℕ)
    → AreReached (LeadsInside s t window) from found → All (IsInside window) found
reached_inside s t window from found reached =
    all_each (IsInside window) found (λ q h. let r = (reached q).0 h in r.2.1)

beyond : (s : List ℕ) (t : Tree) (d : Direction) (base p q : ℕ) → IsTrue (is_beyond d base p) → Leads s t d p q
    → IsTrue (is_beyond d base q)
beyond s t Ahead base p q here span = let lies = spans_part s t p q span in grind (arith, nat_tests, lies.0)
beyond s t Back base p q here span = let lies = spans_part s t q p span in grind (arith, nat_tests, lies.0)

pub reached_beyond : (s : List ℕ) (t : Tree) (window : Window) (d : Direction) (base : ℕ) (from found : List ℕ)
    → d ≡ window.direction → All (λ p. IsTrue (is_beyond d base p)) from
    → AreReached (LeadsInside s t window) from found → All (λ p. IsTrue (is_beyond d base p)) found
reached_beyond s t window d base from found same near reached =
    all_each (λ p. IsTrue (is_beyond d base p)) found (λ q h.
    let r = (reached q).0 h in
    beyond s t d base r.0 q (All-contains (λ p. IsTrue (is_beyond d base p)) from r.0 near r.1)
    (subst (λ x. Leads s t x r.0 q) (sym same) r.2.0))

-- PARTS

pub no_refs_at : (ts : List Tree) (k : ℕ) (x : Tree) → k < length ts → any_has_refs (trees_of ts) ≡ false
    → has_refs (get_or ts k x) ≡ false
no_refs_at [] k x low r = absurd (omega arith)
no_refs_at (t ∷ ts) zero x low r = no_left _ _ r
no_refs_at (t ∷ ts) (suc k) x low r = no_refs_at ts k x (omega arith) (no_right _ _ r)

-- the tree that comes after so many others
pub order_at : (d : Direction) (ts : List Tree) (k : ℕ) (x : Tree) → k < length ts
    → get_or (in_order d ts) k x ≡ get_or ts (place_in d (length ts) k) x
order_at Ahead ts k x low = refl
order_at Back ts k x low = get_or-reverse ts k x low

length_in_order : (d : Direction) (ts : List Tree) → length (in_order d ts) ≡ length ts
length_in_order Ahead ts = refl
length_in_order Back ts = length-reverse ts

pub through_more : (s : List ℕ) (window : Window) (order : List Tree) (k : ℕ) (t : Tree) (now new : List ℕ) (q : ℕ)
    → k < length order → get_or order k t ≡ t → AreReached (LeadsInside s t window) now new
    → IsReached (Through s window (drop (k + 1) order)) new q ↔ IsReached (Through s window (drop k order)) now q
through_more s window order k t now new q low is reached = (to, back)
  where
    here : drop k order ≡ t ∷ drop (k + 1) order
    here = drop-cons order k t low ∙ (λ n. is n ∷ drop (sym (add-one k) n) order)

    to : IsReached (Through s window (drop (k + 1) order)) new q → IsReached (Through s window (drop k order)) now q
    to (r, has, rest) =
        let p = (reached r).0 has in
        (p.0, p.1, subst (λ (us : List Tree). Through s window us p.0 q) (sym here) (r, p.2, rest))

    back : IsReached (Through s window (drop k order)) now q → IsReached (Through s window (drop (k + 1) order)) new q
    back (p, has, h) =
        let r = subst (λ (us : List Tree). Through s window us p q) here h in
        (r.0, (reached r.0).1 (p, has, r.1), r.2)

-- nothing is left to go through
pub through_over : (s : List ℕ) (window : Window) (order : List Tree) (k : ℕ) (now : List ℕ) (q : ℕ)
    → length order ≤ k → IsReached (Through s window (drop k order)) now q ↔ Contains now q
through_over s window order k now q past = (
  λ h. subst (Contains now) (subst (λ (us : List Tree). Through s window us h.0 q) none h.2) h.1,
  λ h. (q, h, subst (λ (us : List Tree). Through s window us q q) (sym none) refl),
)
  where
    none : drop k order ≡ []
    none = drop_all k order past

-- the whole is reached so
pub through_reached : (s : List ℕ) (window : Window) (ts : List Tree) (from found : List ℕ)
    → any_has_refs (trees_of ts) ≡ false → window.high ≤ length s → All (IsInside window) from
    → AreReached (Through s window (in_order window.direction ts)) from found
    → AreReached (LeadsInside s (cat (trees_of ts)) window) from found
through_reached s window ts from found r fits inside reached q = (
  λ h. let p = (reached q).0 h in
      (p.0, p.1, (cat_steps s window ts p.0 q r fits (All-contains (IsInside window) from p.0 inside p.1)).1 p.2),
  λ h. (reached q).1 (
    h.0,
    h.1,
    (cat_steps s window ts h.0 q r fits (All-contains (IsInside window) from h.0 inside h.1)).0 h.2,
  ),
)

-- ALTERNATIVES

pub one_more : (s : List ℕ) (window : Window) (t : Tree) (ts : List Tree) (from found old new : List ℕ) (q : ℕ)
    → AreReached (LeadsInside s t window) from found → AreBoth old found new
    → (Contains new q ⊎ IsReached (ByOne s window ts) from q)
    ↔ (Contains old q ⊎ IsReached (ByOne s window (t ∷ ts)) from q)
one_more s window t ts from found old new q reached both = (to, back)
  where
    to : Contains new q ⊎ IsReached (ByOne s window ts) from q
        → Contains old q ⊎ IsReached (ByOne s window (t ∷ ts)) from q
    to (inl h) = elim ((both q).0 h) [
      | inl was ↦ inl was
      | inr is ↦ let r = (reached q).0 is in inr (r.0, r.1, inl r.2)
    ]
    to (inr (p, has, h)) = inr (p, has, inr h)

    back : Contains old q ⊎ IsReached (ByOne s window (t ∷ ts)) from q
        → Contains new q ⊎ IsReached (ByOne s window ts) from q
    back (inl was) = inl ((both q).1 (inl was))
    back (inr (p, has, inl h)) = inl ((both q).1 (inr ((reached q).1 (p, has, h))))
    back (inr (p, has, inr h)) = inr (p, has, h)

pub one_over : (s : List ℕ) (window : Window) (from all : List ℕ) (q : ℕ)
    → (Contains all q ⊎ IsReached (ByOne s window []) from q) ↔ Contains all q
one_over s window from all q = (λ h. elim h [ inl is ↦ is | inr is ↦ absurd is.2 ], λ h. inl h)

pub one_reached : (s : List ℕ) (window : Window) (ts : List Tree) (from found : List ℕ)
    → AreReached (ByOne s window ts) from found → AreReached (LeadsInside s (alt (trees_of ts)) window) from found
one_reached s window ts from found reached q = (
  λ h. let p = (reached q).0 h in (p.0, p.1, (alt_steps s window ts p.0 q).1 p.2),
  λ h. (reached q).1 (h.0, h.1, (alt_steps s window ts h.0 q).0 h.2),
)

-- MEMBERS

-- what is in a list is in its front or behind it
split : (xs : List ℕ) (n q : ℕ) → Contains xs q → Contains (take n xs) q ⊎ Contains (drop n xs) q
split xs n q h = Contains-append_cases (take n xs) (drop n xs) q
    (subst (λ (ys : List ℕ). Contains ys q) (sym (take-append-drop n xs)) h)

pub in_front : (xs : List ℕ) (n q : ℕ) → Contains (drop n xs) q → Contains xs q
in_front xs n q h = subst (λ (ys : List ℕ). Contains ys q) (take-append-drop n xs)
    (Contains-append_right (take n xs) (drop n xs) q h)

-- a round: what the places behind `done` lead to is added
pub record Round (R : ℕ → ℕ → Type 0) (from all : List ℕ) (done rounds : ℕ) : Type 0 where
  pub sound : (q : ℕ) → Contains all q → (n : ℕ) × (n ≤ rounds) × IsReached (Chain R n) from q
  pub front : (n q : ℕ) → n ≤ rounds → IsReached (Chain R n) from q → Contains all q
  pub closed : (p q : ℕ) → Contains (take done all) p → R p q → Contains all q

-- the next steps of all places are there
next_step : (R : ℕ → ℕ → Type 0) (from all next new : List ℕ) (done rounds p q : ℕ) → Round R from all done rounds
    → AreReached R (drop done all) next → AreBoth all next new → Contains all p → R p q → Contains new q
next_step R from all next new done rounds p q known reached both has step = elim (split all done p has) [
  | inl before ↦ (both q).1 (inl (known.closed p q before step))
  | inr behind ↦ (both q).1 (inr ((reached q).1 (p, behind, step)))
]

pub round_more : (R : ℕ → ℕ → Type 0) (from all next new : List ℕ) (done rounds : ℕ) → Round R from all done rounds
    → AreReached R (drop done all) next → AreBoth all next new → take (length all) new ≡ all
    → Round R from new (length all) (rounds + 1)
round_more R from all next new done rounds known reached both front = record {
  sound = λ q h. elim ((both q).0 h) [
    | inl was ↦ let r = known.sound q was in (r.0, omega (arith, r.1), r.2)
    | inr is ↦
        let p = (reached q).0 is in
        let r = known.sound p.0 (in_front all done p.0 p.1) in
        (suc r.0, omega (arith, r.1), (r.2.0, r.2.1, chain_push R r.0 r.2.0 p.0 q r.2.2 p.2))
  ];
  front = λ n q fits h. each n q fits h;
  closed = λ p q has step.
      next_step R from all next new done rounds p q known reached both
      (subst (λ (xs : List ℕ). Contains xs p) front has) step;
}
  where
    each : (n q : ℕ) → n ≤ rounds + 1 → IsReached (Chain R n) from q → Contains new q
    each zero q fits h = (both q).1 (inl (known.front zero q (omega arith) h))
    each (suc n) q fits (p, has, h) =
        let l = chain_last R n p q h in
        next_step R from all next new done rounds l.0 q known reached both
        (known.front n l.0 (omega arith) (p, has, l.1)) l.2

pub round_first : (R : ℕ → ℕ → Type 0) (from all : List ℕ) → AreBoth [] from all → Round R from all 0 0
round_first R from all both = record {
  sound = λ q h. elim ((both q).0 h) [
    | inl was ↦ absurd (omega (arith, was.1))
    | inr is ↦ (zero, omega arith, (q, is, refl))
  ];
  front = λ n q fits h. each n q fits h;
  closed = λ p q has step. absurd (omega (arith, has.1, length-take 0 all));
}
  where
    each : (n q : ℕ) → n ≤ 0 → IsReached (Chain R n) from q → Contains all q
    each zero q fits (p, has, h) = (both q).1 (inr (subst (Contains from) h has))
    each (suc n) q fits h = absurd (omega arith)

-- so many rounds were made
pub round_last : (R : ℕ → ℕ → Type 0) (from all : List ℕ) (done rounds most : ℕ) → Round R from all done rounds
    → rounds ≡ most → AreReached (ChainUpTo R most) from all
round_last R from all done rounds most known same q = (
  λ h. let r = known.sound q h in (r.2.0, r.2.1, (r.0, omega (arith, r.1), r.2.2)),
  λ (p, has, (n, fits, h)). known.front n q (omega (arith, fits)) (p, has, h),
)

-- or nothing new is left
pub round_over : (R : ℕ → ℕ → Type 0) (from all : List ℕ) (done rounds most : ℕ) → Round R from all done rounds
    → done ≡ length all → rounds ≤ most → AreReached (ChainUpTo R most) from all
round_over R from all done rounds most known over fits q = (
  λ h. let r = known.sound q h in (r.2.0, r.2.1, (r.0, omega (arith, r.1), r.2.2)),
  λ (p, has, (n, low, h)). on n p q (known.front zero p (omega arith) (p, has, refl)) h,
)
  where
    whole : take done all ≡ all
    whole = take_all done all (omega arith)

    on : (n p q : ℕ) → Contains all p → Chain R n p q → Contains all q
    on zero p q has h = subst (Contains all) h has
    on (suc n) p q has (r, first, rest) =
        on n r q (known.closed p r (subst (λ (xs : List ℕ). Contains xs p) (sym whole) has) first) rest

-- a member that has to be there
pub least_more : (R : ℕ → ℕ → Type 0) (least k : ℕ) (now new : List ℕ) (q : ℕ) → k < least → AreReached R now new
    → IsReached (Chain R (least - (k + 1))) new q ↔ IsReached (Chain R (least - k)) now q
least_more R least k now new q low reached = (to, back)
  where
    one : least - k ≡ suc (least - (k + 1))
    one = omega arith

    to : IsReached (Chain R (least - (k + 1))) new q → IsReached (Chain R (least - k)) now q
    to (r, has, rest) =
        let p = (reached r).0 has in
        (p.0, p.1, subst (λ n. Chain R n p.0 q) (sym one) (r, p.2, rest))

    back : IsReached (Chain R (least - k)) now q → IsReached (Chain R (least - (k + 1))) new q
    back (p, has, h) =
        let r = subst (λ n. Chain R n p q) one h in (r.0, (reached r.0).1 (p, has, r.1), r.2)

pub least_over : (R : ℕ → ℕ → Type 0) (least k : ℕ) (now : List ℕ) (q : ℕ) → least ≤ k
    → IsReached (Chain R (least - k)) now q ↔ Contains now q
least_over R least k now q past = (
  λ h. subst (Contains now) (subst (λ n. Chain R n h.0 q) none h.2) h.1,
  λ h. (q, h, subst (λ n. Chain R n q q) (sym none) refl),
)
  where
    none : least - k ≡ 0
    none = omega arith

pub repeat_reached : (s : List ℕ) (window : Window) (t : Tree) → has_refs t ≡ false → (least : ℕ) (most : Option ℕ)
    (more : ℕ) (from now found : List ℕ) → further_members least most (window.high - window.low) ≡ Some more
    → window.high ≤ length s → All (IsInside window) from
    → AreReached (Chain (LeadsInside s t window) least) from now
    → AreReached (ChainUpTo (LeadsInside s t window) more) now found
    → AreReached (LeadsInside s (repeat t least most) window) from found
repeat_reached s window t r least most more from now found is fits inside first rest q = (
  λ h. let m = (rest q).0 h in
      let p = (first m.0).0 m.1 in (
        p.0,
        p.1,
        (repeat_steps s window t r least most more p.0 q is fits
            (All-contains (IsInside window) from p.0 inside p.1)).1 (m.0, p.2, m.2),
      ),
  λ (p, has, h).
      let m = (repeat_steps s window t r least most more p q is fits
      (All-contains (IsInside window) from p inside has)).0 h in
      (rest q).1 (m.0, (first m.0).1 (p, has, m.1), m.2),
)

pub repeat_nothing : (s : List ℕ) (window : Window) (t : Tree) (least : ℕ) (most : Option ℕ) (width : ℕ)
    (from : List ℕ) → further_members least most width ≡ None
    → AreReached (LeadsInside s (repeat t least most) window) from []
repeat_nothing s window t least most width from is q =
    (λ h. absurd (omega (arith, h.1)), λ h. absurd (repeat_nowhere s window t least most width h.0 q is h.2))

-- FROM EXPRESSIONS TO TREES

-- one of a list is no deeper than the deepest
pub no_deeper : (items : List Ere) (one : Ere) (i : ℕ) → one ≡ get_or items i one → i < length items
    → the_size one ≤ most the_size items
no_deeper items one i is low = subst (λ e. the_size e ≤ most the_size items) (sym is) (at_most the_size items i one low)

-- the tree of an expression in a list
pub at_view : (items : List Ere) (i : ℕ) (one : Ere) → one ≡ get_or items i one
    → get_or (map view items) i (view one) ≡ view one
at_view items i one is = get_or-map view items i one ∙ ap view (sym is)

pub view_no_refs : (items : List Ere) (i : ℕ) (one : Ere) → i < length items → one ≡ get_or items i one
    → any_has_refs (trees_of (map view items)) ≡ false → has_refs (view one) ≡ false
view_no_refs items i one low is r =
    let low_too : i < length (map view items) = omega (arith, length-map items view) in
    ap has_refs (sym (at_view items i one is)) ∙ no_refs_at (map view items) i (view one) low_too r

-- and of the one that comes after so many others
pub at_order : (d : Direction) (items : List Ere) (k at : ℕ) (one : Ere) → k < length items
    → at ≡ place_in d (length items) k → one ≡ get_or items at one
    → get_or (in_order d (map view items)) k (view one) ≡ view one
at_order d items k at one low same is =
    let low_too : k < length (map view items) = omega (arith, length-map items view) in
    order_at d (map view items) k (view one) low_too
    ∙ ap (λ n. get_or (map view items) n (view one))
    (ap (λ n. place_in d n k) (length-map items view) ∙ sym same)
    ∙ at_view items at one is

pub length_order : (d : Direction) (items : List Ere) → length (in_order d (map view items)) ≡ length items
length_order d items = length_in_order d (map view items) ∙ length-map items view

-- an expression of a list and those behind it
pub views_from : (items : List Ere) (i : ℕ) (one : Ere) → i < length items → one ≡ get_or items i one
    → map view (drop i items) ≡ view one ∷ map view (drop (i + 1) items)
views_from items i one low is =
    ap (map view) (drop-cons items i one low)
    ∙ (λ n. view (sym is n) ∷ map view (drop (sym (add-one i) n) items))

-- facts that hold together, one behind the other
pub then_both : {A B C : Type 0} → A ↔ B → B ↔ C → A ↔ C
then_both (f, g) (h, k) = (λ a. h (f a), λ c. g (k c))

pub turned : {A B : Type 0} → A ↔ B → B ↔ A
turned (f, g) = (g, f)
