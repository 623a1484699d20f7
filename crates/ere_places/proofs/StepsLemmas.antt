-- Chains of steps: one step more at the end, two chains one behind the other, and a chain turned round.
use Rattle.std.proofs.Common.{◌≡◌, ℕ, zero, suc, ◌+◌, ◌≤◌, refl, sym, subst, arith}
use Rattle.ere_places.specs.Steps.{Chain}

pub chain_push : (R : ℕ → ℕ → Type 0) (n p m q : ℕ) → Chain R n p m → R m q → Chain R (suc n) p q
chain_push R zero p m q h last = (q, subst (λ x. R x q) (sym h) last, refl)
chain_push R (suc n) p m q (r, first, rest) last = (r, first, chain_push R n r m q rest last)

pub chain_last : (R : ℕ → ℕ → Type 0) (n p q : ℕ) → Chain R (suc n) p q → (m : ℕ) × Chain R n p m × R m q
chain_last R zero p q (r, first, rest) = (p, refl, subst (R p) rest first)
chain_last R (suc n) p q (r, first, rest) =
    let l = chain_last R n r q rest in (l.0, (r, first, l.1), l.2)

pub chain_append : (R : ℕ → ℕ → Type 0) (n k p m q : ℕ) → Chain R n p m → Chain R k m q
    → (l : ℕ) × (l ≡ n + k) × Chain R l p q
chain_append R zero k p m q h g = (k, omega arith, subst (λ x. Chain R k x q) (sym h) g)
chain_append R (suc n) k p m q (r, first, rest) g =
    let l = chain_append R n k r m q rest g in (suc l.0, omega (arith, l.1), (r, first, l.2))

pub chain_split : (R : ℕ → ℕ → Type 0) (n l p q : ℕ) → n ≤ l → Chain R l p q
    → (m : ℕ) × (k : ℕ) × (l ≡ n + k) × Chain R n p m × Chain R k m q
chain_split R zero l p q fits h = (p, l, omega arith, refl, h)
chain_split R (suc n) zero p q fits h = absurd (omega arith)
chain_split R (suc n) (suc l) p q fits (r, first, rest) =
    let s = chain_split R n l r q (omega arith) rest in
    (s.0, s.1, omega (arith, s.2), (r, first, s.3), s.4)

-- steps of another relation, of which some fact holds all along
pub chain_map : (R S : ℕ → ℕ → Type 0) (P : ℕ → Type 0) → ((p q : ℕ) → P p → R p q → S p q × P q)
    → (n p q : ℕ) → P p → Chain R n p q → Chain S n p q
chain_map R S P step zero p q here h = h
chain_map R S P step (suc n) p q here (r, first, rest) =
    let s = step p r here first in (r, s.0, chain_map R S P step n r q s.1 rest)

pub chain_turned : (R S : ℕ → ℕ → Type 0) → ((p q : ℕ) → R p q → S q p) → (n p q : ℕ) → Chain R n p q
    → Chain S n q p
chain_turned R S turn zero p q h = sym h
chain_turned R S turn (suc n) p q (r, first, rest) =
    chain_push S n q r p (chain_turned R S turn n r q rest) (turn p r first)
