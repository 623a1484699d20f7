-- Parts that groups hold.
use Rattle.std.specs.Prelude.{ℕ, ◌≤◌, Option, List, length}
use Rattle.ere_tree.specs.declared.hit.Cap.{Cap}
use Rattle.ere_tree.specs.declared.hit.Hit.{Hit}
use Rattle.pattern_hits.specs.Bound.{cap_at}

-- the part of each group lies in a text
pub record LieInText (text : List ℕ) (groups : List (Option Cap)) : Type 0 where
  pub ordered : (n : ℕ) → (cap_at groups n).from ≤ (cap_at groups n).to
  pub within : (n : ℕ) → (cap_at groups n).to ≤ length text

-- what the groups of a hit hold lies in the text
pub record IsSoundIn (text : List ℕ) (hit : Hit) : Type 0 where
  pub lies : LieInText text hit.groups
