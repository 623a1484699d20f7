-- What a block says: `[[X]]`, `[[X:ere]]`, `[[#num]]`, `[[@LINE+n]]`, or its first refusal.
-- After LLVM Command Guide, FileCheck, 'FileCheck String Substitution Blocks' and 'FileCheck Numeric Substitution
-- Blocks'. Own rules: a number that a directive defines is used in no expression of that directive; where a block has
-- no format of its own, the numbers that it uses have one format; the first refusal from the left counts.
use Rattle.std.specs.Prelude.{codes, ℕ, ◌+◌, ◌^◌, Bool, true, false, not, ◌&&◌, ◌==◌, nat_lt, is_some, ℤ, pos, negsuc, zero, suc, List, [], ◌∷◌, length, take, drop, Option, Some, None, Result, Ok, Err, if◌then◌else◌}
use Rattle.std.specs.FinMap.{FinMap, get, insert}
use Rattle.std.specs.List.{prefix_len}
use Rattle.std.specs.Str.Parse.{digits_value}
use Rattle.tt_base.specs.Occurrence.{begins_with}
use Rattle.ere_tree.specs.Class.{is_digit}
use Rattle.ere_tree.specs.Front.{begins}
use Rattle.ere_tree.specs.Grammar as ere
use Rattle.ere_tree.specs.Tree.{Tree}
use Rattle.ere_tree.specs.declared.fault.EreFault.{EreFault}
use Rattle.num_base.specs.Names.{name_cmp}
use Rattle.num_base.specs.Term.{Term, literal, line, binary}
use Rattle.num_base.specs.declared.expr.Op.{Op}
use Rattle.num_base.specs.declared.expr.Op.TheVariants.{Add, Sub}
use Rattle.num_base.specs.declared.format.Format.{Format}
use Rattle.num_base.specs.declared.format.FormatKind.{FormatKind}
use Rattle.num_base.specs.declared.format.FormatKind.TheVariants.{Unsigned, Signed, LowerHex, UpperHex}
use Rattle.num_exprs.specs.Block.{Reading, num_of, reading}
use Rattle.num_exprs.specs.Name.{name_at}
use Rattle.num_exprs.specs.declared.block.PlacedName.{PlacedName}
use Rattle.num_exprs.specs.declared.fault.NumKind.{NumKind}
use Rattle.num_exprs.specs.declared.fault.NumKind.TheVariants as num
use Rattle.pattern_parse.specs.Item.{Item, define, recall, number, refused}
use Rattle.pattern_parse.specs.declared.fault.PatFault.{PatFault}
use Rattle.pattern_parse.specs.declared.fault.PatKind.{PatKind}
use Rattle.pattern_parse.specs.declared.fault.PatKind.TheVariants.{BadRegex, BadName, BadFormat, BadExpr, FormatConflict, SameLineNumber}

-- What the pieces before a place said: the texts that they define, with 1 where a recall means the nearest definition
-- and else 0; how many definitions recalls mean; the numbers that they define, and those that they use.
pub record Said : Type 0 where
  pub texts : FinMap name_cmp ℤ
  pub references : ℕ
  pub defined : FinMap name_cmp ℤ
  pub used : FinMap name_cmp ℤ

-- a text is defined, or recalled
abbrev pub with_text : List ℕ → Said → Said
with_text name said = record said { texts = insert said.texts name (pos 0) }

abbrev pub meant : List ℕ → Said → Option ℤ → Said
meant name said None = said
meant name said (Some (pos zero)) =
    record said { texts = insert said.texts name (pos 1); references = said.references + 1 }
meant name said (Some (pos (suc n))) = said
meant name said (Some (negsuc n)) = said

abbrev pub with_recall : List ℕ → Said → Said
with_recall name said = meant name said (get said.texts name)

-- TEXTS

abbrev pub defined_as : List ℕ → Said → ℕ → Result Tree EreFault → Result (Item × Said) PatFault
defined_as name said at (Ok tree) = Ok (define name tree, with_text name said)
defined_as name said at (Err fault) = refused (BadRegex fault) (at + fault.at)

-- a text that the regular expression of these bytes defines
abbrev pub regex_defined : Bool → List ℕ → Said → ℕ → List ℕ → Result (Item × Said) PatFault
regex_defined fold name said at bytes = defined_as name said at (ere.reading fold bytes)

-- a name of this length and what is behind it
abbrev pub behind_name : Bool → Said → ℕ → ℕ → List ℕ → Result (Item × Said) PatFault
behind_name fold said at long bytes =
    if length bytes == long then Ok (recall (take long bytes), with_recall (take long bytes) said)
    else if begins 58 (drop long bytes)
    then regex_defined fold (take long bytes) said (at + long + 1) (drop (long + 1) bytes)
    else refused BadName (at + long)

abbrev pub text_read : Bool → Said → ℕ → List ℕ → Result (Item × Said) PatFault
text_read fold said at bytes = elim (name_at bytes) [
  | Ok long ↦ behind_name fold said at long bytes
  | Err behind ↦ refused BadName (at + behind)
]

-- NUMBERS

abbrev pub kind_of : NumKind → PatKind
kind_of num.BadName = BadName
kind_of num.BadFormat = BadFormat
kind_of num.BadExpr = BadExpr

abbrev pub same_kind : FormatKind → FormatKind → Bool
same_kind Unsigned Unsigned = true
same_kind Signed Signed = true
same_kind LowerHex LowerHex = true
same_kind UpperHex UpperHex = true
same_kind kind other = false

abbrev pub same_bool : Bool → Bool → Bool
same_bool true b = b
same_bool false b = not b

abbrev pub same_format : Format → Format → Bool
same_format f g = same_kind f.kind g.kind && same_bool f.alternate g.alternate && f.digits == g.digits

-- whether two numbers of a block have formats that differ
abbrev pub differs : Option Format → Format → Bool
differs None f = false
differs (Some g) f = not (same_format g f)

-- the formats of the numbers that a block uses, and the numbers that are used from then on; or the first refusal at one
-- of them
abbrev pub uses_read : (List ℕ → Option Format) → FinMap name_cmp ℤ → Bool → ℕ → FinMap name_cmp ℤ → Option Format
    → List PlacedName → Result (Option Format × FinMap name_cmp ℤ) PatFault
uses_read known defined written at used seen [] = Ok (seen, used)
uses_read known defined written at used seen (u ∷ us) =
    if is_some (get defined u.name) then refused SameLineNumber (at + u.at)
    else elim (known u.name) [
      | None ↦ uses_read known defined written at (insert used u.name (pos 1)) seen us
      | Some f ↦ if not written && differs seen f then refused FormatConflict (at + u.at)
          else uses_read known defined written at (insert used u.name (pos 1)) (Some f) us
    ]

-- the same of all that it uses, by the formats that are known
abbrev pub all_uses_read : FinMap name_cmp Format → FinMap name_cmp ℤ → Bool → ℕ → FinMap name_cmp ℤ → List PlacedName
    → Result (Option Format × FinMap name_cmp ℤ) PatFault
all_uses_read known defined written at used uses = uses_read (get known) defined written at used None uses

-- the format of a block: the written one, that of the numbers that it uses, or `%u`
abbrev pub format_of : Option Format → Option Format → Format
format_of (Some f) seen = f
format_of None (Some f) = f
format_of None None = record { kind = Unsigned; alternate = false; digits = 0 }

-- the numbers that are defined with a block's own
abbrev pub with_own : FinMap name_cmp ℤ → Option PlacedName → FinMap name_cmp ℤ
with_own defined None = defined
with_own defined (Some named) = insert defined named.name (pos 1)

abbrev pub is_used : FinMap name_cmp ℤ → Option PlacedName → Bool
is_used used None = false
is_used used (Some named) = is_some (get used named.name)

abbrev pub own_place : Option PlacedName → ℕ
own_place None = 0
own_place (Some named) = named.at

-- a block whose names are no fault, with the format that they have
abbrev pub block_number : Said → ℕ → Reading → Option Format × FinMap name_cmp ℤ → Result (Item × Said) PatFault
block_number said at read seen = elim (read.expr) [
  | Ok expr ↦ Ok (
    number (num_of read expr) (format_of read.format seen.0),
    record said { defined = with_own said.defined read.defines; used = seen.1 },
  )
  | Err fault ↦ refused (kind_of fault.kind) (at + fault.at)
]

abbrev pub number_of : (List ℕ → Option Format) → Said → ℕ → Reading → Result (Item × Said) PatFault
number_of known said at read =
    if is_used said.used read.defines then refused SameLineNumber (at + own_place read.defines)
    else elim (uses_read known (with_own said.defined read.defines) (is_some read.format) at said.used None read.uses) [
      | Ok seen ↦ block_number said at read seen
      | Err fault ↦ Err fault
    ]

-- the same by the formats that are known
abbrev pub number_by : FinMap name_cmp Format → Said → ℕ → Reading → Result (Item × Said) PatFault
number_by known said at read = number_of (get known) said at read

-- LINES

abbrev pub line_number : Term → Item
line_number t =
    number (record { format = None; defines = None; expr = Some t }) (format_of None None)

-- the value of these digits, where there are digits and it is one
abbrev pub decimal : List ℕ → Option ℤ
decimal digits =
    if length digits == 0 then None
    else if nat_lt (digits_value 10 digits) (2 ^ 127) then Some (pos (digits_value 10 digits))
    else None

-- so many digits behind the sign
abbrev pub line_digits : Op → ℕ → ℕ → List ℕ → Result Item PatFault
line_digits op at count bytes = elim (decimal (take count bytes)) [
  | None ↦ refused BadExpr at
  | Some value ↦ if length bytes == count then Ok (line_number (binary op line (literal value)))
      else refused BadExpr (at + count)
]

abbrev pub behind_line : ℕ → List ℕ → Result Item PatFault
behind_line at bytes =
    if length bytes == 0 then Ok (line_number line)
    else if begins 43 bytes then line_digits Add (at + 1) (prefix_len is_digit (drop 1 bytes)) (drop 1 bytes)
    else if begins 45 bytes then line_digits Sub (at + 1) (prefix_len is_digit (drop 1 bytes)) (drop 1 bytes)
    else refused BadExpr at

abbrev pub line_read : ℕ → List ℕ → Result Item PatFault
line_read at bytes =
    if begins_with bytes (codes "@LINE") then behind_line (at + 5) (drop 5 bytes) else refused BadName at

-- an item that says nothing of texts and numbers
abbrev pub and_said : Said → Result Item PatFault → Result (Item × Said) PatFault
and_said said (Ok item) = Ok (item, said)
and_said said (Err fault) = Err fault

-- what the bytes of a block at an offset say
abbrev pub block_read : Bool → (List ℕ → Option Format) → Said → ℕ → List ℕ → Result (Item × Said) PatFault
block_read fold known said at bytes =
    if begins 35 bytes then number_of known said (at + 1) (reading (drop 1 bytes))
    else if begins 64 bytes then and_said said (line_read at bytes)
    else text_read fold said at bytes
