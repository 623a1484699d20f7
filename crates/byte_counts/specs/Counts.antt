-- How often a byte stands in a text. Own rule.
use Rattle.std.specs.Prelude.{ℕ, Bool, ◌==◌}

-- whether a byte is a certain one
abbrev pub is_byte : ℕ → ℕ → Bool
is_byte byte other = other == byte
