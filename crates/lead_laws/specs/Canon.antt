-- The canonical form of texts one behind the other, and of the lines of a text.
-- After LLVM Command Guide, FileCheck, --strict-whitespace. Own rule: a byte is decided by the next one alone, so only a blank or a newline at
-- the front of the second text changes the first, and a newline takes along nothing but the `\r` before it.
use Rattle.std.specs.Prelude.{◌≡◌, ℕ, false, ◌==◌, ◌&&◌, if◌then◌else◌, Bool, List, [], ◌∷◌, ◌++◌, get_or}
use Rattle.check_lines.specs.Canonical.{canon, is_blank, shown}

-- a text begins with neither a newline nor a blank
abbrev pub BeginsApart : List ℕ → Type 0
BeginsApart [] = Unit {0}
BeginsApart (byte ∷ text) = ((byte == 10) ≡ false) × (is_blank byte ≡ false)

-- Law: before such a text the canonical form of both is that of each.
abbrev pub CanonIsByParts : Type 0
CanonIsByParts = (strict : Bool) (front behind : List ℕ) → BeginsApart behind → canon strict (front ++ behind) ≡ canon strict front ++ canon strict behind

-- a text without a `\r` at its end
abbrev pub unreturned : List ℕ → List ℕ
unreturned [] = []
unreturned (byte ∷ []) = if byte == 13 then [] else byte ∷ []
unreturned (byte ∷ next ∷ rest) = byte ∷ unreturned (next ∷ rest)

-- a line as it stands in the canonical form of a text, before its newline
abbrev pub form_of : List ℕ → List ℕ
form_of line = canon false (unreturned line)

-- Law: the canonical form of a text is that of its first line, and behind its newline that of the others.
abbrev pub CanonIsByLines : Type 0
CanonIsByLines = (line behind : List ℕ) → canon false (line ++ 10 ∷ behind) ≡ form_of line ++ 10 ∷ canon false behind

-- in a text each blank is a space, and none stands before another
abbrev pub IsSettled : List ℕ → Type 0
IsSettled [] = Unit {0}
IsSettled (byte ∷ text) = (shown false byte ≡ byte) × (is_blank byte && is_blank (get_or text 0 0) ≡ false) × IsSettled text

-- Law: it is so in a canonical form.
abbrev pub CanonIsSettled : Type 0
CanonIsSettled = (text : List ℕ) → IsSettled (canon false text)
