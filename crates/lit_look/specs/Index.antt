-- The directories that were looked at, with their numbers under their paths.
-- Own rule.
use Rattle.std.specs.Prelude.{◌≡◌, ℕ, ◌≤◌, List, map, All, Option, Some, Vec, slice_get}
use Rattle.std.specs.declared.alloc.Global.{Global}
use Rattle.std.specs.BTreeMap.{is_at}
use Rattle.std.specs.Cmp.Lexicographic.{slice_cmp}
use Rattle.std.specs.Map.{lookup}
use Rattle.std.specs.Ordering.{nat_cmp}
use Rattle.lit_paths.specs.Paths.{text_of}
use Rattle.lit_look.specs.Seen.{HasParts, HasRoot, count_items}
use Rattle.lit_look.specs.declared.seen.Looked.{Looked}

-- the number under a path
abbrev pub number_at : List (Vec ℕ Global × ℕ) → List ℕ → Option ℕ
number_at numbers path = lookup (is_at (λ key. slice_cmp nat_cmp path key.items)) numbers

-- each text has its number, and there are no other numbers
pub record AreNumbers (texts : List (List ℕ)) (numbers : List (Vec ℕ Global × ℕ)) : Type 0 where
  pub right : (path : List ℕ) (number : ℕ) → number_at numbers path ≡ Some number → slice_get texts number ≡ Some path
  pub whole : (path : List ℕ) (number : ℕ) → slice_get texts number ≡ Some path → number_at numbers path ≡ Some number

-- each directory has its number under its path
pub record IsIndexed (seen : List Looked) (numbers : List (Vec ℕ Global × ℕ)) (items : ℕ) : Type 0 where
  pub numbered : AreNumbers (map (λ looked. text_of looked.dir) seen) numbers
  pub parts : All HasParts seen
  pub roots : All HasRoot seen
  pub count : items ≡ count_items seen
  pub within : items ≤ 1000000
