-- Numbers that don't fall.
use Rattle.std.specs.Prelude.{ℕ, ◌≤◌, List, [], ◌∷◌}
use Rattle.std.specs.List.{AllByRecursion}

-- each number is at most each behind it
abbrev pub AreAscending : List ℕ → Type 0
AreAscending [] = Unit {0}
AreAscending (number ∷ numbers) = AllByRecursion (λ other. number ≤ other) numbers × AreAscending numbers
