-- Counts in a list of numbers.
-- Own rule: what numbers a list has is told by how many of them lie below each bound.
use Rattle.std.specs.Prelude.{ℕ, ◌==◌, nat_lt, List}
use Rattle.std.specs.List.{count_by}

-- how many of the numbers lie below a bound
abbrev pub count_below : ℕ → List ℕ → ℕ
count_below bound numbers = count_by (λ number. nat_lt number bound) numbers

-- how often a number stands in a list
abbrev pub count_of : ℕ → List ℕ → ℕ
count_of number numbers = count_by (λ other. other == number) numbers
