-- The laws of groups.
-- Shown: tries are a chain, and a chain's last overlaps nothing.
-- Idea: induction on the tries that are left, and on the chain. The hard one is `chained`.
use Rattle.std.proofs.Common.{◌≡◌, ℕ, zero, suc, ◌+◌, ◌<◌, ◌≤◌, Bool, true, false, cond, List, [], ◌∷◌, Option, Some, None, Result, Ok, Err, IfOk, refl, sym, arith}
use Rattle.std.specs.List.{AllByRecursion}
use Rattle.tt_base.specs.declared.place.Span.{Span}
use Rattle.check_group.specs.declared.answer.Met.{Met}
use Rattle.check_group.specs.declared.fault.FaultKind.{FaultKind}
use Rattle.check_group.specs.Laws.{Advances, TriesAreAChain, MembersApart}
use Rattle.check_group.specs.Group.{IsChain, lowest, moved_on, overlaps, settled, tried}

-- ---- tries

module _ (try : ℕ → Result Met FaultKind) (ranges : List Span) (to : ℕ) (moves : Advances try ranges to) where
  -- a try that finds, by what it overlaps
  chain-moved : (from : ℕ) (m : Met) (low : Option Span) (again : ℕ → Result Met FaultKind) → from ≤ to → try from ≡ Ok m → lowest m.span ranges ≡ low
      → ((next : ℕ) → from < next → next ≤ to → (starts : List ℕ) × IsChain try ranges next starts (again next))
      → (starts : List ℕ) × IsChain try ranges from starts (moved_on m low again)
  chain-moved from m None again within is none later = ([], (sym is, none))
  chain-moved from m (Some range) again within is lower later =
      let moved = moves from m range within is lower in
      let rest = later range.to moved.0 moved.1 in
      (range.to ∷ rest.0, (m, range, is, lower, refl, moved.0, rest.1))

  -- a try, by what it comes to
  chain-settled : (from : ℕ) (met : Result Met FaultKind) (again : ℕ → Result Met FaultKind) → from ≤ to → try from ≡ met
      → ((next : ℕ) → from < next → next ≤ to → (starts : List ℕ) × IsChain try ranges next starts (again next))
      → (starts : List ℕ) × IsChain try ranges from starts (settled ranges met again)
  chain-settled from (Err kind) again within is later = ([], (sym is, tt))
  chain-settled from (Ok m) again within is later = chain-moved from m (lowest m.span ranges) again within is refl later

  -- where none is left, the one try is the last
  last-moved : (from : ℕ) (m : Met) (low : Option Span) → from ≤ to → to ≤ from → try from ≡ Ok m → lowest m.span ranges ≡ low → lowest m.span ranges ≡ None
  last-moved from m None within end is none = none
  last-moved from m (Some range) within end is lower = absurd (let moved = moves from m range within is lower in omega (arith, moved.0, moved.1, end))

  last-free : (from : ℕ) (met : Result Met FaultKind) → from ≤ to → to ≤ from → try from ≡ met → IfOk met (λ m. lowest m.span ranges ≡ None)
  last-free from (Err kind) within end is = tt
  last-free from (Ok m) within end is = last-moved from m (lowest m.span ranges) within end is refl

  chained : (left from : ℕ) → from ≤ to → to ≤ from + left → (starts : List ℕ) × IsChain try ranges from starts (tried try ranges left from)
  unfolding tried
  chained zero from within enough = ([], (refl, last-free from (try from) within (omega (arith, enough)) refl))
  chained (suc left) from within enough =
      chain-settled from (try from) (tried try ranges left) within refl
      (λ next later low. chained left next low (omega (arith, enough, later)))

pub tries_chain : TriesAreAChain
tries_chain try ranges to left from moves within enough = chained try ranges to moves left from within enough

-- ---- the last of a chain

apart-cond : (m range : Span) (ranges : List Span) (test : Bool) → overlaps m range ≡ test → cond test (Some range) (lowest m ranges) ≡ None
    → (lowest m ranges ≡ None → AllByRecursion (λ r. overlaps m r ≡ false) ranges)
    → AllByRecursion (λ r. overlaps m r ≡ false) (range ∷ ranges)
apart-cond m range ranges true is none later = cc
apart-cond m range ranges false is none later = (is, later none)

apart : (m : Span) (ranges : List Span) → lowest m ranges ≡ None → AllByRecursion (λ r. overlaps m r ≡ false) ranges
unfolding lowest
apart m [] none = tt
apart m (range ∷ ranges) none = apart-cond m range ranges (overlaps m range) refl none (apart m ranges)

apart-met : (ranges : List Span) (met : Result Met FaultKind) → IfOk met (λ m. lowest m.span ranges ≡ None)
    → IfOk met (λ m. AllByRecursion (λ range. overlaps m.span range ≡ false) ranges)
apart-met ranges (Err kind) free = tt
apart-met ranges (Ok m) free = apart m.span ranges free

pub chain_apart : MembersApart
chain_apart try ranges from [] met chain = apart-met ranges met chain.1
chain_apart try ranges from (next ∷ starts) met (m, range, is, lower, goes, later, rest) = chain_apart try ranges next starts met rest
