-- A law of numbers that were drawn.
use Rattle.std.specs.Prelude.{◌≡◌, ℕ, nat_lt, if◌then◌else◌, List}
use Rattle.lit_claims.specs.Claimed.{Drawn}
use Rattle.lit_claims.specs.Counted.{count_of}

-- Law: each number below the last stands there once, and no other does.
abbrev pub IsEachOnce : Type 0
IsEachOnce = (w : ℕ) (numbers : List ℕ) → Drawn w numbers → (number : ℕ)
    → count_of number numbers ≡ (if nat_lt number w then 1 else 0)
