-- How many steps a chain has: none, one, two halves, any number over several blocks, and as many as a repeat allows.
-- A chain is cut behind so many steps, or at the first that leads past a block.
-- The hard one is `between_split`: the first half takes as many of the steps as it may.
use Rattle.std.proofs.Common.{◌≡◌, ◌↔◌, ℕ, zero, suc, ◌+◌, ◌-◌, ◌/◌, ◌≤◌, ◌<◌, min, false, Some, None, List, length, refl, ap, subst, inl, inr, arith}
use Rattle.std.specs.Prelude.{◌⊎◌}
use Rattle.std.proofs.lemmas.Bool.{cases_lt}
use Rattle.ere_tree.specs.Tree.{Tree, repeat}
use Rattle.ere_tree.specs.Shape.{has_refs}
use Rattle.ere_tree.specs.Derivation.{Spans}
use Rattle.ere_places.specs.Steps.{Chain}
use Rattle.ere_places.proofs.SpanLemmas.{spans_part, spans_repeat, repeat_spans}
use Rattle.ere_places.proofs.StepsLemmas.{chain_append, chain_split}
use Rattle.ere_whole.specs.Places.{ChainAny, ChainBetween, PastBlock}

pub chain_ahead : (R : ℕ → ℕ → Type 0) → ((p q : ℕ) → R p q → p ≤ q) → (n p q : ℕ) → Chain R n p q → p ≤ q
chain_ahead R ahead zero p q h = omega (arith, h)
chain_ahead R ahead (suc n) p q (m, first, rest) =
    let a = ahead p m first in let b = chain_ahead R ahead n m q rest in omega (arith, a, b)

pub chain_within : (s : List ℕ) (t : Tree) (n p q : ℕ) → p ≤ length s → Chain (Spans s t) n p q → q ≤ length s
chain_within s t zero p q low h = omega (arith, h, low)
chain_within s t (suc n) p q low (m, first, rest) = chain_within s t n m q (spans_part s t p m first).1 rest

-- steps that are members go ahead, and stay in the text
pub any_ahead : (s : List ℕ) (t : Tree) (p q : ℕ) → ChainAny (Spans s t) p q → p ≤ q
any_ahead s t p q (n, h) = chain_ahead (Spans s t) (λ p q step. (spans_part s t p q step).0) n p q h

pub between_ahead : (s : List ℕ) (t : Tree) (least most p q : ℕ) → ChainBetween (Spans s t) least most p q → p ≤ q
between_ahead s t least most p q (n, low, high, h) = any_ahead s t p q (n, h)

pub between_within : (s : List ℕ) (t : Tree) (least most p q : ℕ) → p ≤ length s
    → ChainBetween (Spans s t) least most p q → q ≤ length s
between_within s t least most p q low (n, one, other, h) = chain_within s t n p q low h

pub between_none : (R : ℕ → ℕ → Type 0) (least most p q : ℕ) → least ≤ most → most ≡ 0
    → (p ≡ q) ↔ ChainBetween R least most p q
between_none R least most p q order none =
    (λ h. (zero, omega arith, omega arith, h), λ (n, low, high, h). is n (omega (arith, high, none)) h)
  where
    is : (n : ℕ) → n ≤ 0 → Chain R n p q → p ≡ q
    is zero high h = h
    is (suc n) high h = absurd (omega (arith, high))

pub between_one : (R : ℕ → ℕ → Type 0) (p q : ℕ) → R p q ↔ ChainBetween R 1 1 p q
between_one R p q = (λ h. (1, omega arith, omega arith, (q, h, refl)), λ (n, low, high, h). is n low high h)
  where
    is : (n : ℕ) → 1 ≤ n → n ≤ 1 → Chain R n p q → R p q
    is zero low high h = absurd (omega (arith, low))
    is (suc zero) low high (m, first, rest) = subst (R p) rest first
    is (suc (suc n)) low high h = absurd (omega (arith, high))

pub between_upto_one : (R : ℕ → ℕ → Type 0) (p q : ℕ) → (R p q ⊎ (p ≡ q)) ↔ ChainBetween R 0 1 p q
between_upto_one R p q = (to, λ (n, low, high, h). is n high h)
  where
    to : R p q ⊎ (p ≡ q) → ChainBetween R 0 1 p q
    to (inl h) = (1, omega arith, omega arith, (q, h, refl))
    to (inr h) = (zero, omega arith, omega arith, h)

    is : (n : ℕ) → n ≤ 1 → Chain R n p q → R p q ⊎ (p ≡ q)
    is zero high h = inr h
    is (suc zero) high (m, first, rest) = inl (subst (R p) rest first)
    is (suc (suc n)) high h = absurd (omega (arith, high))

pub between_split : (R : ℕ → ℕ → Type 0) (least half most p q : ℕ) → least ≤ most → half ≤ most
    → ((m : ℕ) × ChainBetween R (min least half) half p m × ChainBetween R (least - half) (most - half) m q)
    ↔ ChainBetween R least most p q
between_split R least half most p q order fits = (to, λ (n, low, high, h). back n low high h)
  where
    to : (m : ℕ) × ChainBetween R (min least half) half p m × ChainBetween R (least - half) (most - half) m q
        → ChainBetween R least most p q
    to (m, (k, low, high, first), (l, low_too, high_too, rest)) =
        let all = chain_append R k l p m q first rest in
        (all.0, omega (arith, all.1, low, low_too), omega (arith, all.1, high, high_too), all.2)

    back : (n : ℕ) → least ≤ n → n ≤ most → Chain R n p q
        → (m : ℕ) × ChainBetween R (min least half) half p m × ChainBetween R (least - half) (most - half) m q
    back n low high h =
        let two = chain_split R (min n half) n p q (omega arith) h in (
          two.0,
          (min n half, omega (arith, low), omega arith, two.3),
          (two.1, omega (arith, two.2, low), omega (arith, two.2, high), two.4),
        )

-- OVER SEVERAL BLOCKS

chain_past : (R : ℕ → ℕ → Type 0) (last n p q : ℕ) → p / 256 ≤ last → last < q / 256 → Chain R n p q
    → (m : ℕ) × (m / 256 < last + 1) × ChainAny R p m × PastBlock last R (ChainAny R) m q
chain_past R last zero p q low high h = absurd (omega (arith, low, high, ap (λ x. x / 256) h))
chain_past R last (suc n) p q low high (m, first, rest) = elim (cases_lt last (m / 256)) [
  | inl past ↦ (p, omega (arith, low), (zero, refl), (m, past, first, (n, rest)))
  | inr before ↦
      let x = chain_past R last n m q before high rest in
      (x.0, x.1, (suc x.2.0, (m, first, x.2.1)), x.3)
]

-- of a chain that leads past a block one step does
pub any_past : (R : ℕ → ℕ → Type 0) (last p q : ℕ) → p / 256 ≤ last → last < q / 256
    → ((m : ℕ) × (m / 256 < last + 1) × ChainAny R p m × PastBlock last R (ChainAny R) m q) ↔ ChainAny R p q
any_past R last p q low high = (
  λ (m, at, (k, first), (r, past, step, (l, rest))).
      let all = chain_append R k (suc l) p m q first (r, step, rest) in (all.0, all.2),
  λ (n, h). chain_past R last n p q low high h,
)

-- A REPEAT

pub repeat_between : (s : List ℕ) (t : Tree) → has_refs t ≡ false → (least most p q : ℕ) → p ≤ length s
    → ChainBetween (Spans s t) least most p q ↔ Spans s (repeat t least (Some most)) p q
repeat_between s t r least most p q within = (
  λ (n, low, high, h). repeat_spans s t r least (Some most) p q n within (low, high) h,
  λ span. let n = spans_repeat s t least (Some most) p q span in (n.0, n.1.0, n.1.1, n.3),
)

pub repeat_at_least : (s : List ℕ) (t : Tree) → has_refs t ≡ false → (least p q : ℕ) → p ≤ length s
    → ((m : ℕ) × ChainBetween (Spans s t) least least p m × ChainAny (Spans s t) m q)
    ↔ Spans s (repeat t least None) p q
repeat_at_least s t r least p q within = (
  λ (m, (k, low, high, first), (l, rest)).
      let all = chain_append (Spans s t) k l p m q first rest in
      repeat_spans s t r least None p q all.0 within (omega (arith, all.1, low), tt) all.2,
  λ span. let n = spans_repeat s t least None p q span in
      let two = chain_split (Spans s t) least n.0 p q n.1.0 n.3 in
      (two.0, (least, omega arith, omega arith, two.3), (two.1, two.4)),
)

-- between places of one block no more members are needed than a block has places
pub any_near : (s : List ℕ) (t : Tree) → has_refs t ≡ false → (p q : ℕ) → p ≤ length s → p / 256 ≡ q / 256
    → ChainBetween (Spans s t) 0 256 p q ↔ ChainAny (Spans s t) p q
any_near s t r p q within near = (
  λ (n, low, high, h). (n, h),
  λ (n, h). let m = spans_repeat s t 0 None p q (repeat_spans s t r 0 None p q n within (omega arith, tt) h) in
      (m.0, omega arith, omega (arith, m.2, near), m.3),
)
