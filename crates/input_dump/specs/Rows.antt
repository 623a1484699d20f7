-- The rows of a dump, byte by byte. Own format, after the dumps of FileCheck: the number of a line, its bytes, and below it a
-- sign under the column of each mark.
use Rattle.std.specs.Prelude.{ℕ, ◌-◌, List, [], ◌∷◌, ◌++◌, codes, length, replicate}
use Rattle.std.specs.Fmt.{decimal}
use Rattle.input_dump.specs.declared.marking.Mark.{Mark}
use Rattle.input_dump.specs.declared.row.Row.{Row}
use Rattle.input_dump.specs.declared.row.Row.TheVariants as kind

-- a word that ends at a column
abbrev pub right : ℕ → List ℕ → List ℕ
right width word = replicate (width - length word) 32 ++ word

-- the end of a row
abbrev pub newline : List ℕ
newline = 10 ∷ []

-- what stands before the bytes of a line
abbrev pub number_field : ℕ → ℕ → List ℕ
number_field width number = right width (decimal number) ++ codes ": "

-- a line with its number
abbrev pub line_row : ℕ → ℕ → List ℕ → List ℕ
line_row width number line = number_field width number ++ line ++ newline

-- the sign of a mark and what is told of it
abbrev pub sign_text : Mark → List ℕ
sign_text mark = mark.sign ∷ [] ++ codes " " ++ mark.text ++ newline

-- a mark that stands behind so many bytes of its line
abbrev pub mark_row_at : ℕ → ℕ → Mark → List ℕ
mark_row_at width before mark = replicate width 32 ++ codes "  " ++ replicate before 32 ++ sign_text mark

-- lines that aren't shown
abbrev pub gap_row : ℕ → List ℕ
gap_row width = right width (codes "...") ++ newline

-- a row
abbrev pub row_bytes : Row → List ℕ
row_bytes (kind.Line width number line) = line_row width number line.now
row_bytes (kind.Mark width before mark) = mark_row_at width before mark.now
row_bytes (kind.Gap width) = gap_row width
