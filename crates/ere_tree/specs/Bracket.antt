-- Bracket expressions: their members, as tests of bytes.
-- After POSIX.1 XBD 9.3.5, RE bracket expression, in the POSIX locale. Own rules: no collating symbols and no
-- equivalence classes, and a class is no end of a range.
use Rattle.std.specs.Prelude.{codes, ℕ, zero, suc, ◌+◌, ◌-◌, Bool, true, false, ◌≡◌, Option, Some, None, List, [], ◌∷◌, take, drop, length, slice_index, Result, Ok, Err, ◌==◌, ◌&&◌, ◌||◌, not, nat_le, nat_lt, if◌then◌else◌}
use Rattle.std.specs.Int.{is_in_range}
use Rattle.std.specs.List.{prefix_len}
use Rattle.ere_tree.specs.Fault.{fault, and_then, map_ok}
use Rattle.ere_tree.specs.Front.{starts}
use Rattle.ere_tree.specs.Tree.{bytes_passing}
use Rattle.ere_tree.specs.Class.{class_of}
use Rattle.ere_tree.specs.Bytes.{HasBytes}
use Rattle.ere_tree.specs.View.{members_of}
use Rattle.ere_tree.specs.declared.byte_set.ByteSet.{ByteSet}
use Rattle.ere_tree.specs.declared.fault.EreFault.{EreFault}
use Rattle.ere_tree.specs.declared.fault.EreKind.TheVariants.{UnclosedBracket, BadRange, UnknownClass, UnsupportedBracket}
use Rattle.ere_tree.specs.declared.bracket.Bracket.{Bracket}
use Rattle.ere_tree.specs.declared.bracket.Element.{Element}
use Rattle.ere_tree.specs.declared.bracket.Element.TheVariants.{Byte, Class, Unsupported}

-- how long a class's name may be that begins here: no `:` and no `]` is in it
abbrev pub name_len : List ℕ → ℕ
name_len = prefix_len (λ b. not (b == 58) && not (b == 93))

-- how long the name of the class is that the text begins with, where it begins with `[:name:]`
unfoldable pub class_len : List ℕ → Option ℕ
class_len text =
    let count = name_len (drop 2 text) in
    let behind = drop (count + 2) text in
    if starts (codes "[:") text && starts (codes ":]") behind then Some count
    else None

-- what the text begins with inside a bracket: `[.` or `[=`, a class, or a byte
unfoldable pub element : List ℕ → Element
element text =
    if starts (codes "[.") text || starts (codes "[=") text then Unsupported
    else elim (class_len text) [
      | Some count ↦ Class count
      | None ↦ Byte (slice_index text 0)
    ]

-- how many bytes it takes
abbrev pub element_len : Element → ℕ
element_len (Byte b) = 1
element_len (Class count) = count + 4
element_len Unsupported = 2

-- whether the text goes on with a `-` that has an end of a range behind it
unfoldable pub begins_range : List ℕ → Bool
begins_range text = starts (codes "-") text && nat_lt 1 (length text) && not (starts (codes "]")
    (drop 1 text))

-- the range between two ends, of which the second stands two bytes behind the first
abbrev pub range : Element → Element → Result ((ℕ → Bool) × ℕ) EreFault
range (Byte low) (Byte high) = if nat_le low high then Ok (is_in_range low high, 3) else fault 0 BadRange
range (Byte low) (Class count) = fault 0 BadRange
range (Byte low) Unsupported = fault 2 UnsupportedBracket
range (Class count) high = fault 0 BadRange
range Unsupported high = fault 0 UnsupportedBracket

-- the member of a class, where there is a class of its name
abbrev pub class_member : Option (ℕ → Bool) → ℕ → Result ((ℕ → Bool) × ℕ) EreFault
class_member (Some test) count = Ok (test, count + 4)
class_member None count = fault 0 UnknownClass

-- a member that is no range
abbrev pub alone : List ℕ → Element → Result ((ℕ → Bool) × ℕ) EreFault
alone text (Byte b) = Ok (is_in_range b b, 1)
alone text (Class count) = class_member (class_of (take count (drop 2 text))) count
alone text Unsupported = fault 0 UnsupportedBracket

-- the member at the front of the text: which bytes are in it, and how many bytes it takes
unfoldable pub member : List ℕ → Result ((ℕ → Bool) × ℕ) EreFault
member text =
    let first = element text in
    let behind = drop (element_len first) text in
    if begins_range behind then range first (element (drop 1 behind)) else alone text first

-- The bytes of a bracket's members, and its length up to the `]` that closes it, where its text goes on so at
-- an offset, these bytes passed so far, and so many bytes belong to the member before. Behind `[` or `[^` a `]`
-- is a member.
unfoldable pub members : (ℕ → Bool) → Bool → ℕ → ℕ → List ℕ → Result (List ℕ × ℕ) EreFault
members test first at skip [] = fault 0 UnclosedBracket
members test first at (suc skip) (b ∷ rest) = members test first (suc at) skip rest
members test first at zero (b ∷ rest) =
    if starts (codes "]") (b ∷ rest) && not first then Ok (bytes_passing test, at + 1)
    else and_then at (member (b ∷ rest))
    (λ found. members (λ c. test c || found.0 c) false (suc at) (found.1 - 1) rest)

-- the bracket that the text begins with: whether it is negated, the bytes of its members, and its length
unfoldable pub bracket : List ℕ → Result (Bool × List ℕ × ℕ) EreFault
bracket text =
    let negated = starts (codes "^") (drop 1 text) in
    let start = if negated then 2 else 1 in
    map_ok (λ found. (negated, found.0, found.1)) (members (λ b. false) true start 0 (drop start text))

-- a set that was found is that of the test, and a refusal is the one told
abbrev pub GivesTest : Result (ByteSet × ℕ) EreFault → Result ((ℕ → Bool) × ℕ) EreFault → Type 0
GivesTest (Ok found) (Ok told) = HasBytes found.0.bits told.0 × (found.1 ≡ told.1)
GivesTest (Ok found) (Err refused) = ⊥
GivesTest (Err refused) told = told ≡ Err refused

-- a set that was found, as its bytes
abbrev pub as_bytes : Result (ByteSet × ℕ) EreFault → Result (List ℕ × ℕ) EreFault
as_bytes = map_ok (λ found. (members_of found.0.bits, found.1))

-- a bracket that was found, as it is told
abbrev pub as_bracket : Result (Bracket × ℕ) EreFault → Result (Bool × List ℕ × ℕ) EreFault
as_bracket = map_ok (λ found. (found.0.negated, members_of found.0.members.bits, found.1))
