-- The digits of numbers.
-- After LLVM Command Guide, FileCheck, 'FileCheck Numeric Substitution Blocks': decimal digits for %u and %d, hex
-- digits in lower case for %x and in upper case for %X; with `.p` at least p digits.
use Rattle.std.specs.Prelude.{◌≢◌, ℕ, ◌<◌, ◌≤◌, Bool, true, false, ◌||◌, ◌&&◌, ◌==◌, nat_le, not, IsTrue, List, length, max, slice_index}
use Rattle.std.specs.Int.{is_in_range}
use Rattle.std.specs.List.{list_all}
use Rattle.ere_tree.specs.Class.{is_digit}
use Rattle.ere_tree.specs.Front.{begins}
use Rattle.num_base.specs.declared.format.FormatKind.{FormatKind}
use Rattle.num_base.specs.declared.format.FormatKind.TheVariants.{Unsigned, Signed, LowerHex, UpperHex}

-- whether a byte is a digit of the kind
abbrev pub is_digit_of : FormatKind → ℕ → Bool
is_digit_of Unsigned b = is_digit b
is_digit_of Signed b = is_digit b
is_digit_of LowerHex b = is_digit b || is_in_range 97 102 b
is_digit_of UpperHex b = is_digit b || is_in_range 65 70 b

-- the base in which the digits of the kind count
abbrev pub base_of : FormatKind → ℕ
base_of Unsigned = 10
base_of Signed = 10
base_of LowerHex = 16
base_of UpperHex = 16

-- whether hex digits are written in upper case
abbrev pub is_upper_of : FormatKind → Bool
is_upper_of UpperHex = true
is_upper_of kind = false

-- These are digits of the kind: one or more where no number of them is written; else at least so many, and past that
-- none that are zeros in front.
pub record AreDigits (kind : FormatKind) (written : ℕ) (digits : List ℕ) : Type 0 where
  pub all : IsTrue (list_all (is_digit_of kind) digits)
  pub enough : max 1 written ≤ length digits
  pub no_zero : 0 < written → written < length digits → slice_index digits 0 ≢ 48

-- the same as a test
abbrev pub are_digits : FormatKind → ℕ → List ℕ → Bool
are_digits kind written digits =
    nat_le (max 1 written) (length digits) && list_all (is_digit_of kind) digits
    && (written == 0 || length digits == written || not (begins 48 digits))
