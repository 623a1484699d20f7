-- An expression byte by byte: its tokens. An atom and the bound behind it are one token. After POSIX.1 XBD
-- 9.4, with back-references `\1` to `\9`. Own rules: a `{` with no digit behind it is an ordinary byte, and
-- any byte may stand behind a backslash.
use Rattle.std.specs.Prelude.{codes, ℕ, ◌+◌, ◌-◌, Bool, true, Option, Some, None, List, [], drop, length, slice_index, Result, Ok, Err, is_some, nat_lt, if◌then◌else◌}
use Rattle.std.specs.Int.{is_in_range}
use Rattle.ere_tree.specs.Front.{starts}
use Rattle.ere_tree.specs.Bound.{bound_at, begins_bound}
use Rattle.ere_tree.specs.Bracket.{bracket}
use Rattle.ere_tree.specs.Fault.{fault}
use Rattle.ere_tree.specs.declared.bound.Bound.{Bound}
use Rattle.ere_tree.specs.declared.fault.EreFault.{EreFault}
use Rattle.ere_tree.specs.declared.fault.EreKind.{EreKind}
use Rattle.ere_tree.specs.declared.fault.EreKind.TheVariants.{RepeatOfNothing, BadBound, TrailingBackslash}

-- what may be repeated, but for a group: a byte, a bracket's members and whether it is negated, a reference
pub data Atom : Type 0 where
  byte : ℕ → Atom
  one_of : Bool → List ℕ → Atom
  same_as : ℕ → Atom

pub data Token : Type 0 where
  item : Atom → Option Bound → Token
  line_start : Token
  line_end : Token
  bar : Token
  open_group : Token
  close_group : Option Bound → Token

-- the bound that was found behind so many bytes, and how many bytes there are with it
abbrev pub counted : ℕ → Option (Bound × ℕ) → Option Bound × ℕ
counted count (Some found) = (Some found.0, count + found.1)
counted count None = (None, count)

-- the bound that stands behind so many bytes, where there is one, and how many bytes there are with it
unfoldable pub bound_behind : ℕ → List ℕ → Option Bound × ℕ
bound_behind count text = counted count (bound_at (drop count text))

-- a token with the bound behind its first bytes
abbrev pub with_bound : (Option Bound → Token) → ℕ → List ℕ → Token × ℕ
with_bound make count text = (make (bound_behind count text).0, (bound_behind count text).1)

-- why a bound with no atom before it is refused
abbrev pub bound_refusal : List ℕ → EreKind
bound_refusal text = if is_some (bound_at text) then RepeatOfNothing else BadBound

-- what a backslash stands for with the byte behind it
abbrev pub escaped : ℕ → Atom
escaped b = if is_in_range 49 57 b then same_as (b - 48) else byte b

-- the token of a byte behind a backslash
abbrev pub escape_at : List ℕ → Result (Token × ℕ) EreFault
escape_at text =
    if nat_lt 1 (length text) then Ok (with_bound (item (escaped (slice_index text 1))) 2 text)
    else fault 0 TrailingBackslash

-- the token of a bracket that was read
abbrev pub bracket_item : List ℕ → Result (Bool × List ℕ × ℕ) EreFault → Result (Token × ℕ) EreFault
bracket_item text (Ok found) = Ok (with_bound (item (one_of found.0 found.1)) found.2 text)
bracket_item text (Err refused) = Err refused

-- the token of an atom and its bound; a `.` is a negated bracket with no member
unfoldable pub atom_at : List ℕ → Result (Token × ℕ) EreFault
atom_at text =
    if starts (codes ".") text then Ok (with_bound (item (one_of true [])) 1 text)
    else if starts (codes "[") text then bracket_item text (bracket text)
    else if starts (codes "\\") text then escape_at text
    else Ok (with_bound (item (byte (slice_index text 0))) 1 text)

-- the token at the front of a text that isn't empty, and how many bytes it takes
unfoldable pub token : List ℕ → Result (Token × ℕ) EreFault
token text =
    if starts (codes "^") text then Ok (line_start, 1)
    else if starts (codes "$") text then Ok (line_end, 1)
    else if starts (codes "|") text then Ok (bar, 1)
    else if starts (codes "(") text then Ok (open_group, 1)
    else if starts (codes ")") text then Ok (with_bound close_group 1 text)
    else if begins_bound text then fault 0 (bound_refusal text)
    else atom_at text
