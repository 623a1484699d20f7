-- Places that are led to from those of a set: none, those that stay, those of two relations, and those led to through
-- the places of one block after the other. A set of places knows one block of 256, so each lemma keeps to one block.
-- The hard one is `middle_more`, one block of middle places more.
use Rattle.std.proofs.Common.{◌≡◌, ◌↔◌, ℕ, ◌+◌, ◌<◌, ◌≤◌, ◌/◌, ◌==◌, ◌&&◌, ◌||◌, Bool, true, false, IsTrue, Some, List, length, zero, suc, refl, sym, ap, ◌∙◌, subst, inl, inr, arith, true≢false, eqb-true, eq-eqb}
use Rattle.std.specs.Prelude.{◌⊎◌}
use Rattle.std.proofs.lemmas.Bool.{cases_lt}
use Rattle.ere_tree.proofs.CapturesLemmas.{some_same}
use Rattle.ere_places.specs.Steps.{Chain}
use Rattle.ere_whole.proofs.ChainLemmas.{chain_ahead}
use Rattle.ere_whole.specs.declared.places.Places.{Places}
use Rattle.ere_whole.specs.Places.{is_held, AreInside, IsReached, AreReached, ChainBetween}

or_cases : (v w : Bool) → IsTrue (v || w) → IsTrue v ⊎ IsTrue w
or_cases true w is = inl refl
or_cases false w is = inr is

or_left : (v w : Bool) → IsTrue v → IsTrue (v || w)
or_left true w is = refl
or_left false w is = absurd (true≢false (sym is))

or_right : (v w : Bool) → IsTrue w → IsTrue (v || w)
or_right true w is = refl
or_right false w is = is

and_both : (v w : Bool) → IsTrue (v && w) → IsTrue v × IsTrue w
and_both true w is = (refl, is)
and_both false w is = absurd (true≢false (sym is))

and_true : (v w : Bool) → IsTrue v → IsTrue w → IsTrue (v && w)
and_true true w one other = other
and_true false w one other = absurd (true≢false (sym one))

-- a place that is held lies in the block of the set
pub held_block : (places : Places) (p : ℕ) → IsTrue (is_held places p) → places.block ≡ p / 256
held_block places p is = eqb-true places.block (p / 256) (and_both _ _ is).0

-- another relation that leads there from the same places
pub reached_as : (R S : ℕ → ℕ → Type 0) (from found : Places)
    → ((p q : ℕ) → IsTrue (is_held from p) → q / 256 ≡ found.block → R p q ↔ S p q)
    → AreReached R from found → AreReached S from found
reached_as R S from found same reached q = (
  λ h. let r = (reached q).0 h in (r.0, (r.1.0, r.1.1, (same r.1.0 q r.1.1 r.0).0 r.1.2)),
  λ (here, (p, has, step)). (reached q).1 (here, (p, has, (same p q has here).1 step)),
)

pub reached_none : (R : ℕ → ℕ → Type 0) (from found : Places) → ((q : ℕ) → is_held found q ≡ false)
    → ((p q : ℕ) → IsTrue (is_held from p) → q / 256 ≡ found.block → R p q → ⊥) → AreReached R from found
reached_none R from found none nowhere q = (
  λ h. absurd (true≢false (sym h ∙ none q)),
  λ (here, (p, has, step)). absurd (nowhere p q has here step),
)

-- from no place nothing is reached
pub reached_from_none : (R : ℕ → ℕ → Type 0) (from found : Places) → ((q : ℕ) → is_held found q ≡ false)
    → ((q : ℕ) → is_held from q ≡ false) → AreReached R from found
reached_from_none R from found none empty =
    reached_none R from found none (λ p q has here step. true≢false (sym has ∙ empty p))

-- the places themselves, so far as they lie in the block
pub reached_stay : (from found : Places) (block : ℕ) → found.block ≡ block
    → ((q : ℕ) → is_held found q ≡ (is_held from q && q / 256 == block)) → AreReached (λ p q. p ≡ q) from found
reached_stay from found block same held q = (
  λ h. let both = and_both _ _ (sym (held q) ∙ h) in
      (eqb-true (q / 256) block both.1 ∙ sym same, (q, both.0, refl)),
  λ (here, (p, has, is)). held q ∙ and_true _ _ (subst (λ n. IsTrue (is_held from n)) is has)
      (eq-eqb (q / 256) block (here ∙ same)),
)

-- one relation or the other
pub reached_or : (R S : ℕ → ℕ → Type 0) (from one other new : Places) → one.block ≡ new.block
    → other.block ≡ new.block → ((q : ℕ) → is_held new q ≡ (is_held one q || is_held other q))
    → AreReached R from one → AreReached S from other → AreReached (λ p q. R p q ⊎ S p q) from new
reached_or R S from one other new first second held by_one by_other q = (
  λ h. elim (or_cases _ _ (sym (held q) ∙ h)) [
    | inl is ↦ let r = (by_one q).0 is in (r.0 ∙ first, (r.1.0, r.1.1, inl r.1.2))
    | inr is ↦ let r = (by_other q).0 is in (r.0 ∙ second, (r.1.0, r.1.1, inr r.1.2))
  ],
  λ (here, (p, has, step)). elim step [
    | inl is ↦ held q ∙ or_left _ _ ((by_one q).1 (here ∙ sym first, (p, has, is)))
    | inr is ↦ held q ∙ or_right _ _ ((by_other q).1 (here ∙ sym second, (p, has, is)))
  ],
)

-- what is reached lies in the text
pub reached_inside : (s : List ℕ) (R : ℕ → ℕ → Type 0) (from found : Places)
    → ((p q : ℕ) → IsTrue (is_held from p) → R p q → q ≤ length s) → AreReached R from found → AreInside s found
reached_inside s R from found fits reached q h = let r = (reached q).0 h in fits r.1.0 q r.1.1 r.1.2

-- PLACE BY PLACE

-- R leads on from a place before this one
abbrev pub Before : (ℕ → ℕ → Type 0) → ℕ → ℕ → ℕ → Type 0
Before R place p q = (p < place) × R p q

-- from a place that isn't in the set, or that leads nowhere, nothing is added
pub before_skip : (R : ℕ → ℕ → Type 0) (from found : Places) (place : ℕ)
    → ((q : ℕ) → IsTrue (is_held from place) → R place q → ⊥) → AreReached (Before R place) from found
    → AreReached (Before R (place + 1)) from found
before_skip R from found place nowhere =
    reached_as (Before R place) (Before R (place + 1)) from found (λ p q has here. (
      λ (low, step). (omega (arith, low), step),
      λ (low, step). elim (cases_lt p place) [
        | inl less ↦ (less, step)
        | inr past ↦
            let same : p ≡ place = omega (arith, low, past) in
            absurd (nowhere q (subst (λ n. IsTrue (is_held from n)) same has) (subst (λ n. R n q) same step))
      ],
    ))

-- and else the one place that it leads to
pub before_put : (R : ℕ → ℕ → Type 0) (from found new : Places) (place end : ℕ) → IsTrue (is_held from place)
    → ((q : ℕ) → (Some end ≡ Some q) ↔ R place q) → new.block ≡ found.block
    → ((q : ℕ) → is_held new q ≡ (is_held found q || (q == end && end / 256 == found.block)))
    → AreReached (Before R place) from found → AreReached (Before R (place + 1)) from new
before_put R from found new place end has one same held reached q = (to, back)
  where
    to : IsTrue (is_held new q) → (q / 256 ≡ new.block) × IsReached (Before R (place + 1)) from q
    to h = elim (or_cases _ _ (sym (held q) ∙ h)) [
      | inl was ↦
          let r = (reached q).0 was in (r.0 ∙ sym same, (r.1.0, r.1.1, (omega (arith, r.1.2.0), r.1.2.1)))
      | inr is ↦
          let both = and_both _ _ is in
          let at : q ≡ end = eqb-true q end both.0 in (
            ap (λ n. n / 256) at ∙ eqb-true (end / 256) found.block both.1 ∙ sym same,
            (place, has, (omega arith, (one q).0 (ap Some (sym at)))),
          )
    ]

    back : (q / 256 ≡ new.block) × IsReached (Before R (place + 1)) from q → IsTrue (is_held new q)
    back (here, (p, held_p, (low, step))) = elim (cases_lt p place) [
      | inl less ↦ held q ∙ or_left _ _ ((reached q).1 (here ∙ same, (p, held_p, (less, step))))
      | inr past ↦
          let is : p ≡ place = omega (arith, low, past) in
          let at : end ≡ q = some_same end q ((one q).1 (subst (λ n. R n q) is step)) in
          held q ∙ or_right _ _ (and_true _ _ (eq-eqb q end (sym at))
          (eq-eqb (end / 256) found.block (ap (λ n. n / 256) at ∙ here ∙ same)))
    ]

-- THROUGH MIDDLE PLACES

-- L leads to a middle place of a block before this one, and R on from there
abbrev pub Middle : (ℕ → ℕ → Type 0) → (ℕ → ℕ → Type 0) → ℕ → ℕ → ℕ → Type 0
Middle L R block p q = (m : ℕ) × (m / 256 < block) × L p m × R m q

pub middle_first : (L R : ℕ → ℕ → Type 0) (from found : Places) → ((p m : ℕ) → L p m → p ≤ m)
    → ((q : ℕ) → is_held found q ≡ false) → AreReached (Middle L R from.block) from found
middle_first L R from found ahead none =
    reached_none (Middle L R from.block) from found none (λ p q has here step.
    let block = held_block from p has in
    let on = ahead p step.0 step.2 in
    absurd (omega (arith, block, on, step.1)))

-- none where L leads to no place of a block before this one
pub middle_none : (L R : ℕ → ℕ → Type 0) (from found : Places) (block : ℕ)
    → ((p m : ℕ) → L p m → m / 256 < block → ⊥) → ((q : ℕ) → is_held found q ≡ false)
    → AreReached (Middle L R block) from found
middle_none L R from found block never none =
    reached_none (Middle L R block) from found none (λ p q has here step. never p step.0 step.2 step.1)

through_block : (L R : ℕ → ℕ → Type 0) (from between there : Places) → AreReached L from between
    → AreReached R between there → AreReached (λ p q. (m : ℕ) × (m / 256 ≡ between.block) × L p m × R m q) from there
through_block L R from between there first second q = (
  λ h. let r = (second q).0 h in
      let l = (first r.1.0).0 r.1.1 in
      (r.0, (l.1.0, l.1.1, (r.1.0, l.0, l.1.2, r.1.2))),
  λ (here, (p, has, (m, at, one, other))). (second q).1 (here, (m, (first m).1 (at, (p, has, one)), other)),
)

pub middle_more : (L R : ℕ → ℕ → Type 0) (from found between there new : Places) (block : ℕ)
    → between.block ≡ block → found.block ≡ new.block → there.block ≡ new.block
    → ((q : ℕ) → is_held new q ≡ (is_held found q || is_held there q)) → AreReached (Middle L R block) from found
    → AreReached L from between → AreReached R between there → AreReached (Middle L R (block + 1)) from new
middle_more L R from found between there new block same one other held before first second =
    reached_as _ _ from new (λ p q has here. (to p q, back p q))
    (reached_or (Middle L R block) _ from found there new one other held before
    (through_block L R from between there first second))
  where
    to : (p q : ℕ) → Middle L R block p q ⊎ ((m : ℕ) × (m / 256 ≡ between.block) × L p m × R m q)
        → Middle L R (block + 1) p q
    to p q (inl (m, low, l, r)) = (m, omega (arith, low), l, r)
    to p q (inr (m, at, l, r)) = (m, omega (arith, at, same), l, r)

    back : (p q : ℕ) → Middle L R (block + 1) p q
        → Middle L R block p q ⊎ ((m : ℕ) × (m / 256 ≡ between.block) × L p m × R m q)
    back p q (m, low, l, r) = elim (cases_lt (m / 256) block) [
      | inl less ↦ inl (m, less, l, r)
      | inr past ↦ inr (m, omega (arith, low, past, same), l, r)
    ]

-- a middle place lies in no later block than the end
pub middle_last : (L R : ℕ → ℕ → Type 0) (from found : Places) (block : ℕ) → ((m q : ℕ) → R m q → m ≤ q)
    → found.block < block → AreReached (Middle L R block) from found
    → AreReached (λ p q. (m : ℕ) × L p m × R m q) from found
middle_last L R from found block ahead past reached =
    reached_as _ _ from found (λ p q has here. (
      λ (m, low, l, r). (m, l, r),
      λ (m, l, r). let on = ahead m q r in (m, omega (arith, on, here, past), l, r),
    )) reached

-- MEMBERS

-- where some members lead to no new place of a block, no number of them does
pub reached_closed : (R : ℕ → ℕ → Type 0) (from : Places) (half most : ℕ) → 1 ≤ half → ((p q : ℕ) → R p q → p ≤ q)
    → AreReached (ChainBetween R 0 half) from from → AreReached (ChainBetween R 0 most) from from
reached_closed R from half most some ahead reached q = (
  λ h. (sym (held_block from q h), (q, h, (0, omega arith, omega arith, refl))),
  λ (here, (p, has, (n, low, high, h))). on n p q here has h,
)
  where
    on : (n p q : ℕ) → q / 256 ≡ from.block → IsTrue (is_held from p) → Chain R n p q → IsTrue (is_held from q)
    on zero p q here has h = subst (λ m. IsTrue (is_held from m)) h has
    on (suc n) p q here has (m, first, rest) =
        let a = ahead p m first in
        let b = chain_ahead R ahead n m q rest in
        let block = held_block from p has in
        on n m q here ((reached m).1
        (omega (arith, a, b, block, here), (p, has, (1, omega arith, some, (m, first, refl))))) rest
