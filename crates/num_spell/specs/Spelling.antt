-- How a number is spelled in a format: a relation between texts and whole numbers.
-- After LLVM Command Guide, FileCheck, 'FileCheck Numeric Substitution Blocks'. Own rule: past the digits that a format
-- asks for none are zeros in front.
use Rattle.std.specs.Prelude.{◌≡◌, ℕ, ◌-◌, Bool, true, false, not, ◌||◌, ◌&&◌, ◌^◌, nat_lt, drop, option_and_then, IsTrue, ℤ, pos, negsuc, neg_ℤ, unsigned_abs, List, [], ◌++◌, length, max, replicate, codes, Option, Some, None, if◌then◌else◌}
use Rattle.std.specs.Fmt.{digits, sign_text}
use Rattle.std.specs.Str.Parse.{digits_value}
use Rattle.num_base.specs.declared.format.Format.{Format}
use Rattle.num_base.specs.declared.format.FormatKind.{FormatKind}
use Rattle.num_base.specs.declared.format.FormatKind.TheVariants.{Signed}
use Rattle.ere_tree.specs.Front.{begins}
use Rattle.num_base.specs.Value.{is_value}
use Rattle.num_spell.specs.Digits.{base_of, is_upper_of, AreDigits, are_digits}

-- whether the kind has negative numbers
abbrev pub is_signed : FormatKind → Bool
is_signed Signed = true
is_signed kind = false

-- what stands before the digits: `0x` where the format is alternate
abbrev pub lead : Bool → List ℕ
lead alternate = if alternate then codes "0x" else []

-- the number behind an optional minus
abbrev pub signed : Bool → ℕ → ℤ
signed negative n = if negative then neg_ℤ (pos n) else pos n

-- The text spells the number: an optional minus where the kind has one, `0x` where the format is alternate, and digits.
pub record Spells (format : Format) (text : List ℕ) (value : ℤ) : Type 0 where
  pub negative : Bool
  pub figures : List ℕ
  pub written : text ≡ sign_text negative ++ (lead format.alternate ++ figures)
  pub minus : IsTrue negative → IsTrue (is_signed format.kind)
  pub digits : AreDigits format.kind format.digits figures
  pub means : value ≡ signed negative (digits_value (base_of format.kind) figures)

-- the format with at least one digit: a spelling in it has no zero in front that isn't asked for
abbrev pub least : Format → Format
least format = record format { digits = max 1 format.digits }

-- the digits of a number, with zeros in front up to so many
abbrev pub padded : FormatKind → ℕ → ℕ → List ℕ
padded kind written n =
    replicate (written - length (digits (base_of kind) (is_upper_of kind) n)) 48
    ++ digits (base_of kind) (is_upper_of kind) n

-- whether a number is below zero
abbrev pub is_negative : ℤ → Bool
is_negative (pos n) = false
is_negative (negsuc n) = true

-- the number as it is printed: least digits, or as many as the format asks for
abbrev pub printed : Format → ℤ → List ℕ
printed format value =
    sign_text (is_negative value) ++ (lead format.alternate ++ padded format.kind format.digits (unsigned_abs value))

-- whether the format can print the number
abbrev pub can_print : Format → ℤ → Bool
can_print format value = not (is_negative value) || is_signed format.kind

-- what is printed, where the format can print the number
abbrev pub prints : Format → ℤ → Option (List ℕ)
prints format value = if can_print format value then Some (printed format value) else None

-- the same read from the front: whether a minus stands there that the kind has, and what is behind it
abbrev pub begins_minus : FormatKind → List ℕ → Bool
begins_minus kind text = is_signed kind && begins 45 text

abbrev pub behind_minus : FormatKind → List ℕ → List ℕ
behind_minus kind text = if begins_minus kind text then drop 1 text else text

-- what is behind the `0x` of an alternate format
abbrev pub behind_lead : Bool → List ℕ → Option (List ℕ)
behind_lead false text = Some text
behind_lead true text = if begins 48 text && begins 120 (drop 1 text) then Some (drop 2 text) else None

-- the number that digits write, where 128 bits hold it
abbrev pub number_of : ℕ → List ℕ → Option ℕ
number_of base text = if nat_lt (digits_value base text) (2 ^ 128) then Some (digits_value base text) else None

-- the number that digits spell behind an optional minus
abbrev pub figured : Format → Bool → List ℕ → Option ℤ
figured format negative text =
    if are_digits format.kind format.digits text then Some (signed negative (digits_value (base_of format.kind) text))
    else None

-- the number that a text spells
abbrev pub spelled : Format → List ℕ → Option ℤ
spelled format text =
    option_and_then (figured format (begins_minus format.kind text))
    (behind_lead format.alternate (behind_minus format.kind text))

-- a number that is a value
abbrev pub valued : Option ℤ → Option ℤ
valued None = None
valued (Some z) = if is_value z then Some z else None
