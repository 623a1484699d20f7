-- What a reader believes of a dump of all lines.
use Rattle.std.specs.Prelude.{◌≡◌, ◌^◌, ◌<◌, ℕ, ◌+◌, true, List, [], ◌∷◌, ◌++◌, drop, length, map}
use Rattle.std.specs.List.{flat_map}
use Rattle.input_dump.specs.Dump.{lines_of, mark_row, on_line, rows, width_of}
use Rattle.input_dump.specs.Rows.{line_row, newline}
use Rattle.input_dump.specs.declared.marking.Mark.{Mark}
use Rattle.input_dump.specs.declared.shown.Shown.{Shown}

-- a line with its number, and the rows of its marks
pub record Told : Type 0 where
  pub row : List ℕ
  pub marks : List ℕ

abbrev pub bytes_of : Told → List ℕ
bytes_of told = told.row ++ told.marks

-- the rows of lines from a number on
abbrev pub told_from : ℕ → List ℕ → List Mark → ℕ → List (List ℕ) → List Told
told_from width text marks number [] = []
told_from width text marks number (line ∷ lines) =
    record { row = line_row width number line; marks = flat_map (mark_row width text) (on_line text number marks) }
    ∷ told_from width text marks (number + 1) lines

-- Law: with all lines shown the rows are those of the lines, each with its marks behind it; and what stands behind the number of a line's
-- row is the line.
pub record LinesComeBack (text : List ℕ) (marks : List Mark) (shown : Shown) : Type 0 where
  pub told : List Told
  pub whole : rows text marks shown ≡ flat_map bytes_of told
  pub lines : map (λ one. drop (width_of (length (lines_of text marks)) + 2) one.row) told ≡ map (λ line. line ++ newline) (lines_of text marks)

abbrev pub AllLinesComeBack : Type 0
AllLinesComeBack =
    (text : List ℕ) (marks : List Mark) (shown : Shown) → shown.all ≡ true → length (lines_of text marks) < 2 ^ 64
    → LinesComeBack text marks shown
