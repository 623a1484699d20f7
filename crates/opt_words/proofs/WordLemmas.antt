-- The name in an option ends before the first `=`.
use Rattle.std.proofs.Common.{◌≡◌, ℕ, ◌+◌, ◌-◌, ◌≤◌, Bool, List, [], ◌∷◌, take, Some, None, refl, subst, arith}
use Rattle.std.proofs.lemmas.Grind.{common_steps}
use Rattle.std.specs.List.{before_first, position_from}

-- what stands before the first byte that passes, by its index
pub before_found : (p : ℕ → Bool) (xs : List ℕ) (i k : ℕ) → position_from p i xs ≡ Some k
    → (i ≤ k) × (take (k - i) xs ≡ before_first p xs)
before_found p [] i k found = cc
before_found p (x ∷ xs) i k found =
    let below : position_from p (i + 1) xs ≡ Some k → (i + 1 ≤ k) × (take (k - (i + 1)) xs ≡ before_first p xs) = before_found p xs (i + 1) k in
    grind (arith, common_steps, below)

pub before_index : (p : ℕ → Bool) (xs : List ℕ) (k : ℕ) → position_from p 0 xs ≡ Some k → take k xs ≡ before_first p xs
before_index p xs k found =
    let whole : k - 0 ≡ k = omega arith in
    subst (λ n. take n xs ≡ before_first p xs) whole (before_found p xs 0 k found).1

-- all, where none passes
pub before_none : (p : ℕ → Bool) (xs : List ℕ) (i : ℕ) → position_from p i xs ≡ None → xs ≡ before_first p xs
before_none p [] i none = refl
before_none p (x ∷ xs) i none =
    let below : position_from p (i + 1) xs ≡ None → xs ≡ before_first p xs = before_none p xs (i + 1) in
    grind (arith, common_steps, below)
