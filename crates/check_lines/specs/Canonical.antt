-- Canonical text: what a check file and an input are compared as.
-- After LLVM Command Guide, FileCheck, --strict-whitespace: blanks don't count one by one unless it is given, and
-- ends of lines become newlines in all modes. Own reading: `\r\n` is the other end of a line, a lone `\r` is a byte.
-- Each byte is decided by the next one alone; Cut.antt says the same of a text as a whole.
use Rattle.std.specs.Prelude.{ℕ, Bool, not, ◌==◌, ◌&&◌, ◌||◌, if◌then◌else◌, List, [], ◌∷◌, get_or}

-- whether a byte is a blank: a space or a tab
abbrev pub is_blank : ℕ → Bool
is_blank byte = byte == 32 || byte == 9

-- whether something stands for a byte before the next one, or before 0 at the end: not for a `\r` before a newline,
-- and without `strict` not for a blank before a blank
abbrev pub is_kept : Bool → ℕ → ℕ → Bool
is_kept strict byte next = not ((byte == 13 && next == 10) || ((not strict && is_blank byte) && is_blank next))

-- what stands for a byte that is kept: without `strict` a space for a blank, else the byte itself
abbrev pub shown : Bool → ℕ → ℕ
shown strict byte = if not strict && is_blank byte then 32 else byte

-- the canonical form of a text
unfoldable pub canon : Bool → List ℕ → List ℕ
canon strict [] = []
canon strict (byte ∷ rest) =
    if is_kept strict byte (get_or rest 0 0) then shown strict byte ∷ canon strict rest else canon strict rest
