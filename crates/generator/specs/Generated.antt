-- The generated texts, line by line.
-- Own rule.
use Rattle.std.specs.Prelude.{ℕ, ◌+◌, ◌*◌, ◌%◌, ◌==◌, if◌then◌else◌, List, [], ◌∷◌, ◌++◌, codes, zero, suc}
use Rattle.std.specs.Fmt.{decimal}

-- the end of a line
abbrev pub newline : List ℕ
newline = 10 ∷ []

-- the value that a line of the input ends in
abbrev pub value_at : ℕ → ℕ
value_at line = (line * line + 7) % 1000

-- a number between two texts
abbrev pub numbered : List ℕ → ℕ → List ℕ → List ℕ
numbered before number behind = before ++ decimal number ++ behind

abbrev pub input_line : ℕ → List ℕ
input_line line = numbered (codes "op ") line (codes " val ") ++ numbered [] (value_at line) newline

-- the first directive defines a number, and each other one follows on the next line
abbrev pub check_line : ℕ → List ℕ
check_line line =
    if line == 1 then codes "CHECK: op 1 val [[#V:]]" ++ newline
    else numbered (codes "CHECK-NEXT: op ") line (codes " val {{[0-9]+}}" ++ newline)

-- the first so many lines, which are counted from 1
unfoldable pub first_lines : (ℕ → List ℕ) → ℕ → List ℕ
first_lines line zero = []
first_lines line (suc n) = first_lines line n ++ line (n + 1)

abbrev pub input_text : ℕ → List ℕ
input_text lines = first_lines input_line lines

abbrev pub checks_text : ℕ → List ℕ
checks_text lines = first_lines check_line lines
