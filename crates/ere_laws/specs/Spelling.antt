-- The productions of tokens: how bounds, brackets, escapes and atoms are spelled, apart from any way of reading them.
-- After POSIX.1 XBD 9.3.5, 9.4 and 9.5.3, with back-references:
--   bound = "*" | "+" | "?" | "{" count "}" | "{" count ",}" | "{" count "," count "}"
--   member = byte | byte "-" byte | "[:" name ":]"       bracket = "[" [ "^" ] member { member } "]"
--   atom = byte | "." | bracket | "\" byte
-- Own rules: a `{` with no digit behind it is an ordinary byte, any byte may stand behind a backslash, and a class is
-- no end of a range.
use Rattle.std.specs.Prelude.{◌≡◌, ◌≢◌, codes, ℕ, ◌+◌, ◌-◌, ◌*◌, ◌^◌, ◌<◌, ◌≤◌, Bool, true, false, IsTrue, Option, Some, None, is_some, MatchOption, List, [], ◌∷◌, ◌++◌, length, ◌==◌, ◌&&◌, not, ◌⊎◌}
use Rattle.std.specs.Int.{is_in_range}
use Rattle.std.specs.List.{list_all, list_any}
use Rattle.ere_tree.specs.Class.{class_of, is_digit}
use Rattle.ere_tree.specs.Token.{Atom, Token, byte, one_of, same_as, item, bar, open_group, close_group}
use Rattle.ere_tree.specs.Token as tokens
use Rattle.ere_tree.specs.Tree.{bytes_passing}

-- the text begins with these bytes
abbrev pub Begins : List ℕ → List ℕ → Type 0
Begins text front = (rest : List ℕ) × (text ≡ front ++ rest)

-- BOUNDS

-- a count: decimal digits
abbrev pub IsCount : List ℕ → Type 0
IsCount digits = (0 < length digits) × IsTrue (list_all is_digit digits)

-- the number that digits spell
abbrev pub value : List ℕ → ℕ
value [] = 0
value (digit ∷ digits) = (digit - 48) * 10 ^ length digits + value digits

-- a bound as it is written
pub data Repeats : Type 0 where
  star : Repeats
  plus : Repeats
  mark : Repeats
  exactly : List ℕ → Repeats
  at_least : List ℕ → Repeats
  between : List ℕ → List ℕ → Repeats

abbrev pub spelled : Repeats → List ℕ
spelled star = codes "*"
spelled plus = codes "+"
spelled mark = codes "?"
spelled (exactly count) = codes "{" ++ count ++ codes "}"
spelled (at_least count) = codes "{" ++ count ++ codes ",}"
spelled (between least most) = codes "{" ++ least ++ codes "," ++ most ++ codes "}"

-- how often it lets an atom stand, at least and at most
abbrev pub least_of : Repeats → ℕ
least_of star = 0
least_of plus = 1
least_of mark = 0
least_of (exactly count) = value count
least_of (at_least count) = value count
least_of (between least most) = value least

abbrev pub most_of : Repeats → Option ℕ
most_of star = None
most_of plus = None
most_of mark = Some 1
most_of (exactly count) = Some (value count)
most_of (at_least count) = None
most_of (between least most) = Some (value most)

-- counts are digits, in order, and at most 255
abbrev pub IsGood : Repeats → Type 0
IsGood star = Unit {0}
IsGood plus = Unit {0}
IsGood mark = Unit {0}
IsGood (exactly count) = IsCount count × (value count ≤ 255)
IsGood (at_least count) = IsCount count × (value count ≤ 255)
IsGood (between least most) = IsCount least × IsCount most × (value least ≤ value most) × (value most ≤ 255)

-- the text is a bound of these repetitions and then the rest
abbrev pub SpellsBound : List ℕ → ℕ → Option ℕ → List ℕ → Type 0
SpellsBound text least most rest =
    (one : Repeats) × IsGood one × (least ≡ least_of one) × (most ≡ most_of one) × (text ≡ spelled one ++ rest)

-- no bound stands at the front of the text
abbrev pub HasNoBound : List ℕ → Type 0
HasNoBound text = (least : ℕ) (most : Option ℕ) (rest : List ℕ) → SpellsBound text least most rest → ⊥

-- BRACKETS

pub data Member : Type 0 where
  single : ℕ → Member
  range : ℕ → ℕ → Member
  class : List ℕ → Member

abbrev pub spelled_member : Member → List ℕ
spelled_member (single b) = b ∷ []
spelled_member (range low high) = low ∷ codes "-" ++ high ∷ []
spelled_member (class name) = codes "[:" ++ name ++ codes ":]"

-- whether a byte passes the test of a class, where there is one
abbrev pub passes : Option (ℕ → Bool) → ℕ → Bool
passes (Some test) b = test b
passes None b = false

-- whether a byte belongs to a member
abbrev pub is_of : Member → ℕ → Bool
is_of (single one) b = b == one
is_of (range low high) b = is_in_range low high b
is_of (class name) b = passes (class_of name) b

-- a name: no `:` and no `]` is in it
abbrev pub IsName : List ℕ → Type 0
IsName name = IsTrue (list_all (λ b. not (b == 58) && not (b == 93)) name)

-- the text begins with a `[` that isn't a member of its own
abbrev pub BeginsInner : List ℕ → Type 0
BeginsInner text = Begins text (codes "[.") ⊎ Begins text (codes "[=") ⊎
    ((name : List ℕ) × IsName name × Begins text (codes "[:" ++ name ++ codes ":]"))

-- the text goes on with a `-` and an end of a range, so no `]`
abbrev pub GoesOnAsRange : List ℕ → Type 0
GoesOnAsRange text = (high : ℕ) × (high ≢ 93) × Begins text (codes "-" ++ high ∷ [])

-- this member may stand before this text
abbrev pub MayStand : Member → List ℕ → Type 0
MayStand (single b) rest = (BeginsInner (b ∷ rest) → ⊥) × (GoesOnAsRange rest → ⊥)
MayStand (range low high) rest = (low ≤ high) × (high ≢ 93) × (BeginsInner (high ∷ rest) → ⊥)
MayStand (class name) rest = IsName name × IsTrue (is_some (class_of name)) × (GoesOnAsRange rest → ⊥)

-- The text is these members, the `]` that closes them, and then the rest. The first of them may begin with `]`.
abbrev pub SpellsMembers : Bool → List ℕ → List Member → List ℕ → Type 0
SpellsMembers first text [] rest = (first ≡ false) × (text ≡ codes "]" ++ rest)
SpellsMembers first text (one ∷ others) rest =
    (behind : List ℕ) × (first ≡ false → Begins text (codes "]") → ⊥) × (text ≡ spelled_member one ++ behind)
    × MayStand one behind × SpellsMembers false behind others rest

-- the text is a bracket of these members, which may be negated, and then the rest
abbrev pub SpellsBracket : List ℕ → Bool → List Member → List ℕ → Type 0
SpellsBracket text true all rest =
    (inside : List ℕ) × (text ≡ codes "[^" ++ inside) × SpellsMembers true inside all rest
SpellsBracket text false all rest =
    (inside : List ℕ) × (text ≡ codes "[" ++ inside) × (Begins inside (codes "^") → ⊥)
    × SpellsMembers true inside all rest

-- the bytes of members, in order
abbrev pub bytes_of : List Member → List ℕ
bytes_of all = bytes_passing (λ b. list_any (λ one. is_of one b) all)

-- ATOMS

-- whether a byte has a meaning of its own wherever it stands
abbrev pub is_special : ℕ → Bool
is_special b = list_any (λ one. b == one) (codes "^$|()*+?.[\\")

-- the byte stands for itself before this text
abbrev pub IsOrdinary : ℕ → List ℕ → Type 0
IsOrdinary b rest =
    (is_special b ≡ false)
    × (b ≡ 123 → (digit : ℕ) → IsTrue (is_digit digit) → Begins rest (digit ∷ []) → ⊥)

-- the text is this atom and then the rest
abbrev pub SpellsAtom : List ℕ → Atom → List ℕ → Type 0
SpellsAtom text (byte b) rest =
    ((text ≡ b ∷ rest) × IsOrdinary b rest) ⊎ ((text ≡ codes "\\" ++ b ∷ rest) × (is_in_range 49 57 b ≡ false))
SpellsAtom text (one_of negated bytes) rest =
    ((text ≡ codes "." ++ rest) × (negated ≡ true) × (bytes ≡ [])) ⊎
    ((all : List Member) × (bytes ≡ bytes_of all) × SpellsBracket text negated all rest)
SpellsAtom text (same_as number) rest =
    (digit : ℕ) × (text ≡ codes "\\" ++ digit ∷ rest) × IsTrue (is_in_range 49 57 digit) × (number ≡ digit - 48)

-- TOKENS

-- The text is this token and then the rest. A bound that is spelled behind an atom or a `)` belongs to it.
abbrev pub SpellsToken : List ℕ → Token → List ℕ → Type 0
SpellsToken text (item atom bound) rest =
    (behind : List ℕ) × SpellsAtom text atom behind
    × MatchOption bound (HasNoBound behind × (rest ≡ behind)) (λ b. SpellsBound behind b.least b.most rest)
SpellsToken text tokens.line_start rest = text ≡ codes "^" ++ rest
SpellsToken text tokens.line_end rest = text ≡ codes "$" ++ rest
SpellsToken text bar rest = text ≡ codes "|" ++ rest
SpellsToken text open_group rest = text ≡ codes "(" ++ rest
SpellsToken text (close_group bound) rest =
    (behind : List ℕ) × (text ≡ codes ")" ++ behind)
    × MatchOption bound (HasNoBound behind × (rest ≡ behind)) (λ b. SpellsBound behind b.least b.most rest)
