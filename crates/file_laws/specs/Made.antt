-- The check file that is made from an output.
-- Own form, of the directives of the LLVM Command Guide, FileCheck: the first line stands in front of all, each further one on the line behind
-- the one before it, and nothing but ends of lines behind the last. Empty lines at the end of an output don't count.
use Rattle.std.specs.Prelude.{ℕ, nat_lt, Bool, false, List, [], ◌∷◌, ◌++◌, codes, length, map, Option}
use Rattle.std.specs.List.{flat_map, position_from}
use Rattle.check_lines.specs.Canonical.{canon}
use Rattle.line_laws.specs.Lines.{lines_of}
use Rattle.quote_laws.specs.Quote.{body_of}
use Rattle.file_laws.specs.Kept.{kept, with_newline}

-- the lines of an output that count
abbrev pub canonical_lines : List ℕ → List (List ℕ)
canonical_lines output = lines_of (canon false output)

-- the directive of a line behind another
abbrev pub next_of : List ℕ → List ℕ
next_of [] = codes "CHECK-EMPTY:"
next_of (byte ∷ line) = codes "CHECK-NEXT: " ++ body_of (byte ∷ line)

-- those of all lines: nothing before the first, and nothing but newlines behind the last
abbrev pub directives_of : List (List ℕ) → List (List ℕ)
directives_of [] = codes "CHECK-NOT: {{.}}" ∷ []
directives_of (first ∷ lines) =
    codes "CHECK-NOT: {{.|[[:space:]]}}" ∷ (codes "CHECK: " ++ body_of first) ∷ (map next_of lines ++ codes "CHECK-NOT: {{.}}" ∷ [])

-- a directive on a line of its own, behind the lead
abbrev pub made_line : List ℕ → List ℕ → List ℕ
made_line lead directive = with_newline (lead ++ directive)

-- the check file of lines
abbrev pub made_text : List ℕ → List (List ℕ) → List ℕ
made_text lead lines = flat_map (made_line lead) (directives_of lines)

-- what is kept of an old check file, and behind it the one that an output makes
abbrev pub made_file : List ℕ → List ℕ → List ℕ → List ℕ
made_file old output lead = kept old ++ made_text lead (canonical_lines output)

-- whether the body of a line would be too long for a directive
abbrev pub is_too_long : List ℕ → Bool
is_too_long line = nat_lt 65536 (length (body_of line))

-- the number of the first such line
abbrev pub long_line : List (List ℕ) → Option ℕ
long_line lines = position_from is_too_long 1 lines
