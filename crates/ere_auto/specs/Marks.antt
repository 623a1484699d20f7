-- Sets of numbers, as lists of flags.
use Rattle.std.specs.Prelude.{ℕ, Bool, List, count_by}

-- how many numbers are in the set
unfoldable pub members : List Bool → ℕ
members flags = count_by (λ b. b) flags
