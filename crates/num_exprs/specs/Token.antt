-- The tokens of an expression over numbers.
-- After LLVM Command Guide, FileCheck, 'FileCheck Numeric Substitution Blocks'. Own rules: a `-` where an operand is
-- wanted belongs to a literal, which isn't past 2^127-1; an op is a name that a `(` follows.
use Rattle.std.specs.Prelude.{codes, ℕ, ◌+◌, ◌-◌, ◌^◌, suc, zero, Bool, true, false, ◌&&◌, nat_lt, List, [], ◌∷◌, take, drop, Option, Some, None, Result, Ok, Err, if◌then◌else◌}
use Rattle.std.specs.List.{prefix_len, find}
use Rattle.std.specs.Option.{option_map}
use Rattle.std.specs.Str.{bytes_eq}
use Rattle.std.specs.Str.Parse.{digits_value}
use Rattle.ere_tree.specs.Class.{is_blank, is_digit, is_xdigit}
use Rattle.ere_tree.specs.Front.{begins}
use Rattle.ere_tree.specs.Front as front
use Rattle.tt_base.specs.Occurrence.{begins_with}
use Rattle.num_base.specs.Term.{Term, literal, line, name}
use Rattle.num_base.specs.declared.expr.Op.{Op}
use Rattle.num_base.specs.declared.expr.Op.TheVariants.{Add, Sub, Mul, Div, Max, Min}
use Rattle.num_spell.specs.Spelling.{signed}
use Rattle.num_exprs.specs.Name.{name_at}
use Rattle.num_exprs.specs.Row.{is_in_row}
use Rattle.num_exprs.specs.declared.row.Row.{Row}
use Rattle.num_exprs.specs.declared.row.Row.TheVariants.{Digits, HexDigits}

-- a literal, a name or `@LINE`; `+` or `-`; an op that a `(` follows
pub data Token : Type 0 where
  value : Term → Token
  operator : Op → Token
  named : Op → Token
  open_paren : Token
  close_paren : Token
  comma : Token

-- how many blanks a text begins with
abbrev pub blanks : List ℕ → ℕ
blanks = prefix_len is_blank

-- the ops by their names
abbrev pub ops : List (List ℕ × Op)
ops =
    (codes "add", Add) ∷
    (codes "sub", Sub) ∷
    (codes "mul", Mul) ∷
    (codes "div", Div) ∷
    (codes "max", Max) ∷
    (codes "min", Min) ∷
    []

-- the op of this name
abbrev pub op_of : List ℕ → Option Op
op_of bytes = option_map (λ row. row.1) (find (λ row. bytes_eq bytes row.0) ops)

-- the literal of this sign and magnitude and its length, unless it is past 2^127-1
abbrev pub literal_of : Bool → ℕ → ℕ → Result (Token × ℕ) ℕ
literal_of negative count n =
    if nat_lt n (2 ^ 127) then Ok (value (literal (signed negative n)), count) else Err 0

-- the literal of this sign whose digits, in a row at the front of a text, begin behind so many bytes
abbrev pub digits_from : Bool → ℕ → Row → ℕ → List ℕ → Result (Token × ℕ) ℕ
digits_from negative base row at text =
    literal_of negative (at + prefix_len (is_in_row row) text)
    (digits_value base (take (prefix_len (is_in_row row) text) text))

-- the literal of this sign whose digits, behind `0x` or not, begin behind so many bytes
abbrev pub literal_from : Bool → ℕ → List ℕ → Result (Token × ℕ) ℕ
literal_from negative at text =
    if begins_with text (codes "0x") && front.begins_with is_xdigit (drop 2 text)
    then digits_from negative 16 HexDigits (at + 2) (drop 2 text)
    else if front.begins_with is_digit text then digits_from negative 10 Digits at text
    else Err at

-- the op that stands at the front of a text, where a name of this length does and a `(` follows
abbrev pub op_before : ℕ → List ℕ → Option Op
op_before count text =
    if begins 40 (drop (blanks (drop count text)) (drop count text)) then op_of (take count text) else None

-- the token of a name of this length
abbrev pub word_of : ℕ → List ℕ → Token
word_of count text = elim (op_before count text) [ None ↦ value (name (take count text)) | Some op ↦ named op ]

abbrev pub word_at : List ℕ → Result (Token × ℕ) ℕ
word_at text = elim (name_at text) [ Ok count ↦ Ok (word_of count text, count) | Err at ↦ Err at ]

-- a literal, `@LINE`, a name or an op at the front of a text
abbrev pub operand_at : List ℕ → Result (Token × ℕ) ℕ
operand_at text =
    if front.begins_with is_digit text then literal_from false 0 text
    else if begins_with text (codes "@LINE") then Ok (value line, 5)
    else word_at text

-- The token at the front of a text, and its length; or the offset of the byte that can't be read on. A `-` begins a
-- literal where an operand is wanted.
unfoldable pub token : Bool → List ℕ → Result (Token × ℕ) ℕ
token wanted text =
    if begins 40 text then Ok (open_paren, 1)
    else if begins 41 text then Ok (close_paren, 1)
    else if begins 44 text then Ok (comma, 1)
    else if begins 43 text then Ok (operator Add, 1)
    else if begins 45 text then (if wanted then literal_from true 1 (drop 1 text) else Ok (operator Sub, 1))
    else if wanted then operand_at text
    else Err 0

-- whether an operand is wanted behind a token
abbrev pub wanted_behind : Token → Bool
wanted_behind (value t) = false
wanted_behind (operator op) = true
wanted_behind (named op) = false
wanted_behind open_paren = true
wanted_behind close_paren = false
wanted_behind comma = true

-- The tokens of a text with their offsets, up to its end or to a byte that can't be read on.
pub data Tokens : Type 0 where
  ends : ℕ → Tokens
  stops : ℕ → Tokens
  next : ℕ → Token → Tokens → Tokens

-- goes on behind the token that begins at an offset, where there is one
abbrev pub and_next : ℕ → Result (Token × ℕ) ℕ → (Token × ℕ → Tokens) → Tokens
and_next at (Ok found) go = next at found.0 (go found)
and_next at (Err behind) go = stops (at + behind)

-- the tokens of a text that begins at an offset, where so many bytes belong to the token before; blanks between
-- tokens belong to none
unfoldable pub tokens_from : Bool → ℕ → ℕ → List ℕ → Tokens
tokens_from wanted at skip [] = ends at
tokens_from wanted at (suc skip) (b ∷ rest) = tokens_from wanted (suc at) skip rest
tokens_from wanted at zero (b ∷ rest) =
    if is_blank b then tokens_from wanted (suc at) zero rest
    else and_next at (token wanted (b ∷ rest)) (λ found.
    tokens_from (wanted_behind found.0) (suc at) (found.1 - 1) rest)
