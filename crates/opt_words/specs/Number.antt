-- Decimal numbers. Own rule: leading zeros don't count, and there is no sign.
use Rattle.std.specs.Prelude.{ℕ, Bool, true, false, ◌+◌, ◌-◌, ◌*◌, ◌^◌, ◌&&◌, nat_le, nat_lt, if◌then◌else◌, List, [], ◌∷◌, length, Option, Some, None}

-- whether a byte is a digit
abbrev pub is_digit : ℕ → Bool
is_digit byte = nat_le 48 byte && nat_le byte 57

-- whether all bytes are digits
abbrev pub are_digits : List ℕ → Bool
are_digits [] = true
are_digits (byte ∷ rest) = is_digit byte && are_digits rest

-- the number that the digits spell, behind those of another number
abbrev pub number_behind : ℕ → List ℕ → ℕ
number_behind n [] = n
number_behind n (digit ∷ rest) = number_behind (n * 10 + (digit - 48)) rest

-- whether a text is of digits alone that spell, behind those of another number, a number of 64 bits
abbrev pub fits_behind : ℕ → List ℕ → Bool
fits_behind n text = are_digits text && nat_lt (number_behind n text) (2 ^ 64)

-- the number that a text spells, where it is one of 64 bits
abbrev pub decimal : List ℕ → Option ℕ
decimal text =
    if nat_lt 0 (length text) && fits_behind 0 text then Some (number_behind 0 text) else None

-- a number with one more digit, where the byte is one and the number is one of 64 bits
abbrev pub with_digit : ℕ → ℕ → Option ℕ
with_digit n byte = if fits_behind n (byte ∷ []) then Some (number_behind n (byte ∷ [])) else None

-- whether there is a number, and it lies within these bounds
abbrev pub is_within : ℕ → ℕ → Option ℕ → Bool
is_within least most None = false
is_within least most (Some n) = nat_le least n && nat_le n most

-- whether a text spells a number within these bounds
abbrev pub is_number : ℕ → ℕ → List ℕ → Bool
is_number least most text = is_within least most (decimal text)
