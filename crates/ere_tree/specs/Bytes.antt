-- Sets of bytes, as the four words of the code hold them.
use Rattle.std.specs.Prelude.{ℕ, Bool, List, ◌≡◌, ◌<◌}
use Rattle.ere_tree.specs.View.{has_bit}

-- the set of these words has exactly the bytes that pass the test
abbrev pub HasBytes : List ℕ → (ℕ → Bool) → Type 0
HasBytes bits test = (b : ℕ) → b < 256 → has_bit bits b ≡ test b
