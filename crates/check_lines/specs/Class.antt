-- Bytes of a kind.
-- Own rule: letters and digits are those of ASCII, and a blank is a space or a tab.
use Rattle.std.specs.Prelude.{ℕ, ◌==◌, nat_le, Bool, ◌&&◌, ◌||◌}
use Rattle.check_lines.specs.Canonical.{is_blank}
use Rattle.check_lines.specs.declared.class.Class.{Class}
use Rattle.check_lines.specs.declared.class.Class.TheVariants.{Blank, Digit, Modifier}

-- whether a byte is a letter
abbrev pub is_letter : ℕ → Bool
is_letter byte = (nat_le 97 byte && nat_le byte 122) || (nat_le 65 byte && nat_le byte 90)

-- whether a byte is a digit
abbrev pub is_digit : ℕ → Bool
is_digit byte = nat_le 48 byte && nat_le byte 57

-- whether a byte is of a class
abbrev pub has : Class → ℕ → Bool
has Blank byte = is_blank byte
has Digit byte = is_digit byte
has Modifier byte = is_letter byte || is_blank byte || byte == 44
