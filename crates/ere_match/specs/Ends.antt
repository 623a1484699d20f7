-- How far what begins at a place may end.
-- Own rule: where some references gave way, what an expression derives is derived still, so it ends no farther.
use Rattle.std.specs.Prelude.{ℕ, ◌≤◌, Option, Some, None, List}
use Rattle.std.specs.FinMap.{empty}
use Rattle.ere_tree.specs.Captures.{Captures}
use Rattle.ere_tree.specs.Derivation.{Way, Derives}
use Rattle.ere_tree.specs.Tree.{Tree}

-- what begins at `low` and ends up to `high` ends up to the bound; without one there is nothing of the kind
abbrev pub IsBound : List ℕ → Tree → ℕ → ℕ → Option ℕ → Type 0
IsBound s t low high None = (w : Way) (q : ℕ) (d : Captures) → q ≤ high → Derives s t w low q empty d → ⊥
IsBound s t low high (Some bound) =
    (low ≤ bound) × (bound ≤ high)
    × ((w : Way) (q : ℕ) (d : Captures) → q ≤ high → Derives s t w low q empty d → q ≤ bound)
