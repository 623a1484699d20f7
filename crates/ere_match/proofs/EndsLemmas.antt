-- What one group's references tell of all of them, and greatest ends up to a bound.
-- None is hard: whatever an expression derives is derived where some references gave way.
-- Nothing ends behind a bound, so the greatest end up to it is the greatest of all.
use Rattle.std.proofs.Common.{◌≡◌, ℕ, ◌<◌, ◌≤◌, ◌%◌, Option, Some, None, List, length, get_or, sym, arith}
use Rattle.std.specs.FinMap.{empty}
use Rattle.std.specs.List.{Contains}
use Rattle.std.proofs.lemmas.Nat.{mod_below}
use Rattle.ere_tree.proofs.DerivationLemmas.{is_part}
use Rattle.ere_tree.specs.Tree.{Tree}
use Rattle.ere_tree.specs.declared.ere.Ere.{Ere}
use Rattle.ere_dive.specs.Dive.{Matches}
use Rattle.ere_match.specs.Ends.{IsBound}
use Rattle.ere_reach.specs.Leads.{EndsNowhere, TellsEnd}
use Rattle.ere_relaxed.specs.Freed.{StandsFor}
use Rattle.ere_relaxed.specs.Relaxed.{AreBytes}

-- all of a span
pub matches_all : (s : List ℕ) (t : Tree) (low high : ℕ) → Matches s t low high → TellsEnd s t low high (Some high)
matches_all s t low high found = (found.1.0, found.0, omega arith, found.1.1, λ v q e fits derives. fits)

pub bound_first : (s : List ℕ) (t : Tree) (low high : ℕ) → low ≤ high → IsBound s t low high (Some high)
bound_first s t low high order = (order, omega arith, λ w q d fits derives. fits)

-- a nearer one
pub bound_nearer : (s : List ℕ) (t u : Tree) (low bound high end : ℕ) → AreBytes s → StandsFor t u
    → IsBound s t low high (Some bound) → TellsEnd s u low bound (Some end) → IsBound s t low high (Some end)
bound_nearer s t u low bound high end bytes stands known told = (
  (is_part s u told.0 low end empty told.1 told.3).0,
  omega (arith, told.2, known.1),
  λ w q d fits derives.
      let k = stands s w low q d bytes derives in told.4 k.0 q k.1 (known.2 w q d fits derives) k.2,
)

pub bound_none : (s : List ℕ) (t u : Tree) (low bound high : ℕ) → AreBytes s → StandsFor t u
    → IsBound s t low high (Some bound) → TellsEnd s u low bound None → IsBound s t low high None
bound_none s t u low bound high bytes stands known none = λ w q d fits derives.
    let k = stands s w low q d bytes derives in none k.0 q k.1 (known.2 w q d fits derives) k.2

-- the greatest end up to a bound
pub told_within : (s : List ℕ) (t : Tree) (low bound high : ℕ) (found : Option ℕ) → IsBound s t low high (Some bound)
    → TellsEnd s t low bound found → TellsEnd s t low high found
told_within s t low bound high None known none = λ w q d fits derives. none w q d (known.2 w q d fits derives) derives
told_within s t low bound high (Some end) known told = (
  told.0,
  told.1,
  omega (arith, told.2, known.1),
  told.3,
  λ v q e fits derives. told.4 v q e (known.2 v q e fits derives) derives,
)

pub told_none : (s : List ℕ) (t : Tree) (low high : ℕ) → IsBound s t low high None → TellsEnd s t low high None
told_none s t low high none = λ w q d fits derives. none w q d fits derives

-- one of them, taken in turn
pub in_turn : (all : List Ere) (n count : ℕ) (one : Ere) → count ≡ length all → 0 < count
    → one ≡ get_or all (n % count) one → Contains all one
in_turn all n count one same some is = (n % count, omega (arith, mod_below n count some, same), sym is)

-- nothing ends
pub nowhere_by : (s : List ℕ) (t u : Tree) (places : List ℕ) (high : ℕ) → AreBytes s → StandsFor t u
    → EndsNowhere s u places high → EndsNowhere s t places high
nowhere_by s t u places high bytes stands none = λ p at w q d fits derives.
    let k = stands s w p q d bytes derives in none p at k.0 q k.1 fits k.2
