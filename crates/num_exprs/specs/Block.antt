-- Numeric blocks: what is read of the bytes behind `[[#`, or the first fault with its offset there.
--   num = [ "%" fmt "," ] [ name ":" ] [ "==" ] [ expr ]      fmt = [ "#" ] [ "." digits ] ( "u" | "d" | "x" | "X" )
-- Blanks may stand between the parts, but not inside fmt. After LLVM Command Guide, FileCheck, 'FileCheck Numeric
-- Substitution Blocks'. Own rules: digits from 1 to 100; `#` with hex digits alone; with a `:` behind the format a name
-- is due; `==` wants an expression.
use Rattle.std.specs.Prelude.{codes, ℕ, ◌+◌, Bool, true, not, ◌&&◌, ◌==◌, nat_le, List, [], length, take, drop, Option, Some, None, Result, Ok, Err, if◌then◌else◌}
use Rattle.std.specs.List.{prefix_len, list_any}
use Rattle.std.specs.Option.{option_map}
use Rattle.std.specs.Str.Parse.{digits_value}
use Rattle.ere_tree.specs.Class.{is_digit}
use Rattle.ere_tree.specs.Front.{begins}
use Rattle.tt_base.specs.Occurrence.{begins_with}
use Rattle.num_base.specs.Term.{Term}
use Rattle.num_base.specs.declared.format.Format.{Format}
use Rattle.num_base.specs.declared.format.FormatKind.{FormatKind}
use Rattle.num_base.specs.declared.format.FormatKind.TheVariants.{Unsigned, Signed, LowerHex, UpperHex}
use Rattle.num_exprs.specs.Fault.{fault}
use Rattle.num_exprs.specs.Name.{name_at}
use Rattle.num_exprs.specs.Place.{Found, wants, reading_from}
use Rattle.num_exprs.specs.Token.{blanks, tokens_from}
use Rattle.num_exprs.specs.declared.block.PlacedName.{PlacedName}
use Rattle.num_exprs.specs.declared.fault.NumFault.{NumFault}
use Rattle.num_exprs.specs.declared.fault.NumKind.TheVariants.{BadName, BadFormat, BadExpr}
use Rattle.num_exprs.specs.declared.head.TheConstants.{MAX_DIGITS}
use Rattle.num_exprs.specs.declared.reader.TheConstants.{MAX_WEIGHT}

-- the digits of a format and how many bytes they take with their dot, where there are none or from 1 to 100
abbrev pub digits_of : ℕ → ℕ → Option (ℕ × ℕ)
digits_of n taken = if nat_le 1 n && nat_le n MAX_DIGITS then Some (n, taken) else None

abbrev pub digits_at : List ℕ → Option (ℕ × ℕ)
digits_at text =
    if begins 46 text then
    digits_of (digits_value 10 (take (prefix_len is_digit (drop 1 text)) (drop 1 text)))
    (prefix_len is_digit (drop 1 text) + 1)
    else Some (0, 0)

-- the kind of a format
abbrev pub kind_at : Bool → List ℕ → Option FormatKind
kind_at alternate text =
    if begins 117 text && not alternate then Some Unsigned
    else if begins 100 text && not alternate then Some Signed
    else if begins 120 text then Some LowerHex
    else if begins 88 text then Some UpperHex
    else None

-- a format and the comma behind it, where `taken` bytes of it were read
abbrev pub comma_at : Format → ℕ → ℕ → List ℕ → Result (Option Format × ℕ) NumFault
comma_at format at count text =
    if begins 44 (drop count text) then Ok (Some format, count + 1) else fault BadFormat (at + count)

abbrev pub comma_behind : Format → ℕ → ℕ → List ℕ → Result (Option Format × ℕ) NumFault
comma_behind format at taken text = comma_at format at (taken + blanks (drop taken text)) text

abbrev pub kind_behind : Bool → ℕ → ℕ → ℕ → List ℕ → Result (Option Format × ℕ) NumFault
kind_behind alternate digits at taken text = elim (kind_at alternate (drop taken text)) [
  | None ↦ fault BadFormat (at + taken)
  | Some kind ↦ comma_behind (record { kind = kind; alternate = alternate; digits = digits }) at (taken + 1) text
]

abbrev pub digits_behind : ℕ → ℕ → List ℕ → Result (Option Format × ℕ) NumFault
digits_behind at taken text = elim (digits_at (drop taken text)) [
  | None ↦ fault BadFormat (at + taken + 1)
  | Some digits ↦ kind_behind (begins 35 text) digits.0 at (taken + digits.1) text
]

-- the format behind a `%`, whose bytes begin at an offset
abbrev pub format_from : ℕ → List ℕ → Result (Option Format × ℕ) NumFault
format_from at text =
    digits_behind at (if begins 35 text then 1 else 0) text

-- a format with so many bytes in front of it
abbrev pub format_behind : ℕ → Result (Option Format × ℕ) NumFault → Result (Option Format × ℕ) NumFault
format_behind at (Ok found) = Ok (found.0, at + found.1)
format_behind at (Err refused) = Err refused

-- the format behind a `%` that stands at an offset
abbrev pub percent_at : ℕ → List ℕ → Result (Option Format × ℕ) NumFault
percent_at at text =
    let begin = at + 1 + blanks (drop (at + 1) text) in format_behind begin (format_from begin (drop begin text))

-- the format at the front of a block, if there is one, and how many bytes it takes
abbrev pub format_at : List ℕ → Result (Option Format × ℕ) NumFault
format_at text = if begins 37 (drop (blanks text) text) then percent_at (blanks text) text else Ok (None, 0)

-- the colon behind a name of this length that begins behind so many bytes
abbrev pub colon_at : ℕ → ℕ → ℕ → ℕ → List ℕ → Result (Option PlacedName × ℕ) NumFault
colon_at at begin long count text =
    if begins 58 (drop count text) then
    Ok (Some (record { at = at + begin; name = take long (drop begin text) }), count + 1)
    else fault BadName (at + count)

abbrev pub colon_behind : ℕ → ℕ → ℕ → List ℕ → Result (Option PlacedName × ℕ) NumFault
colon_behind at begin long text =
    colon_at at begin long (begin + long + blanks (drop (begin + long) text)) text

abbrev pub name_behind : ℕ → ℕ → List ℕ → Result (Option PlacedName × ℕ) NumFault
name_behind at begin text = elim (name_at (drop begin text)) [
  | Ok long ↦ colon_behind at begin long text
  | Err behind ↦ fault BadName (at + begin + behind)
]

-- the name that is defined, at an offset: where a `:` stands anywhere behind it
abbrev pub name_from : ℕ → List ℕ → Result (Option PlacedName × ℕ) NumFault
name_from at text = if list_any (λ b. b == 58) text then name_behind at (blanks text) text else Ok (None, 0)

-- how many bytes there are up to and with an `==`, or none where there is none
abbrev pub equals_at : List ℕ → ℕ
equals_at text = if begins_with (drop (blanks text) text) (codes "==") then blanks text + 2 else 0

-- What is read of a block: the format, the name that is defined, the names that its expression uses, each with its
-- offset, and the expression, or the first fault. The format and the names are those before the fault.
pub record Reading : Type 0 where
  pub format : Option Format
  pub defines : Option PlacedName
  pub uses : List PlacedName
  pub expr : Result (Option Term) NumFault

abbrev pub refused : Option Format → Option PlacedName → NumFault → Reading
refused format defines fault = record { format = format; defines = defines; uses = []; expr = Err fault }

-- the expression that was found
abbrev pub expr_of : Result Term ℕ → Result (Option Term) NumFault
expr_of (Ok t) = Ok (Some t)
expr_of (Err at) = fault BadExpr at

abbrev pub with_expr : Option Format → Option PlacedName → Found → Reading
with_expr format defines found =
    record { format = format; defines = defines; uses = found.uses; expr = expr_of found.outcome }

-- what is found of a text that begins at an offset, read as an expression
abbrev pub found_in : ℕ → List ℕ → Found
found_in at text = reading_from MAX_WEIGHT (wants []) (tokens_from true at 0 text)

-- the expression of a block at an offset, behind an `==` or not
abbrev pub expr_from : Option Format → Option PlacedName → Bool → ℕ → List ℕ → Reading
expr_from format defines equals at text =
    if blanks text == length text then
    (if equals then refused format defines (record { at = at + length text; kind = BadExpr })
    else record { format = format; defines = defines; uses = []; expr = Ok None })
    else with_expr format defines (found_in at text)

-- what is read behind the format, and behind the name that is defined
abbrev pub behind_name : Option Format → Option PlacedName → ℕ → List ℕ → Reading
behind_name format defines at text =
    expr_from format defines (not (equals_at text == 0)) (at + equals_at text) (drop (equals_at text) text)

abbrev pub behind_format : Option Format → ℕ → List ℕ → Reading
behind_format format at text = elim (name_from at text) [
  | Ok found ↦ behind_name format found.0 (at + found.1) (drop found.1 text)
  | Err fault ↦ refused format None fault
]

-- what is read of a block
unfoldable pub reading : List ℕ → Reading
reading text = elim (format_at text) [
  | Ok found ↦ behind_format found.0 found.1 (drop found.1 text)
  | Err fault ↦ refused None None fault
]

-- a numeric block as plain data
pub record Num : Type 0 where
  pub format : Option Format
  pub defines : Option (List ℕ)
  pub expr : Option Term

abbrev pub num_of : Reading → Option Term → Num
num_of read expr =
    record { format = read.format; defines = option_map (λ (named : PlacedName). named.name) read.defines; expr = expr }

-- the block that was read, or its first fault
abbrev pub block_of : Reading → Result Num NumFault
block_of read = elim (read.expr) [ Ok expr ↦ Ok (num_of read expr) | Err fault ↦ Err fault ]
