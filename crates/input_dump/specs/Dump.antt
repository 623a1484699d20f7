-- An annotated input.
-- After LLVM Command Guide, FileCheck, --dump-input, --dump-input-context and --dump-input-filter: the lines with a mark are shown, and
-- those near them. The format is own: a run of other lines is one row.
use Rattle.std.specs.Prelude.{ℕ, ◌+◌, ◌-◌, nat_le, nat_lt, Bool, true, false, ◌==◌, ◌&&◌, ◌||◌, if◌then◌else◌, List, [], ◌∷◌, ◌++◌, codes, length, map, max}
use Rattle.std.specs.Fmt.{decimal}
use Rattle.std.specs.List.{filter, flat_map, list_any, range_with_len, slice_split}
use Rattle.tt_base.specs.Place.{is_newline, place_at}
use Rattle.input_dump.specs.Rows.{gap_row, line_row, mark_row_at}
use Rattle.input_dump.specs.declared.marking.Mark.{Mark}
use Rattle.input_dump.specs.declared.shown.Shown.{Shown}

-- the lines of a text; an empty one at the end counts where it is marked
abbrev pub counted : Bool → List (List ℕ) → List (List ℕ)
counted marked [] = []
counted marked (line ∷ []) = if marked || nat_lt 0 (length line) then line ∷ [] else []
counted marked (line ∷ next ∷ lines) = line ∷ counted marked (next ∷ lines)

-- whether a mark stands at the end of a text
abbrev pub ends_marked : List ℕ → List Mark → Bool
ends_marked text marks = list_any (λ mark. mark.at == length text) marks

abbrev pub lines_of : List ℕ → List Mark → List (List ℕ)
lines_of text marks = counted (ends_marked text marks) (slice_split is_newline text)

-- the marks of a text of a size by their offsets, and those of one offset in order
abbrev pub by_offset : ℕ → List Mark → List Mark
by_offset size marks = flat_map (λ at. filter (λ mark. mark.at == at) marks) (range_with_len 0 (size + 1))

-- the line of an offset, and of a mark
abbrev pub line_at : List ℕ → ℕ → ℕ
line_at text at = (place_at text at).line

abbrev pub mark_line : List ℕ → Mark → ℕ
mark_line text mark = line_at text mark.at

-- whether two lines are at most so many lines apart
abbrev pub is_close : ℕ → ℕ → ℕ → Bool
is_close context line marked = nat_le marked (line + context) && nat_le line (marked + context)

-- whether one of these lines is that close
abbrev pub any_close : ℕ → ℕ → List ℕ → Bool
any_close context line lines = list_any (is_close context line) lines

-- whether a line is shown, where marks stand on these
abbrev pub is_shown : Shown → List ℕ → ℕ → Bool
is_shown shown marked line = shown.all || any_close shown.context line marked

-- the row of a mark, below its column
abbrev pub mark_row : ℕ → List ℕ → Mark → List ℕ
mark_row width text mark = mark_row_at width ((place_at text mark.at).col - 1) mark

-- the marks on a line, of those that are in order
abbrev pub on_line : List ℕ → ℕ → List Mark → List Mark
on_line text line marks = filter (λ mark. mark_line text mark == line) marks

-- a line that is shown, and its marks below it
abbrev pub full_row : ℕ → List ℕ → List Mark → ℕ → List ℕ → List ℕ
full_row width text marks number line = line_row width number line ++ flat_map (mark_row width text) (on_line text number marks)

-- a hidden line begins a gap or belongs to the one before
abbrev pub gap_before : ℕ → Bool → List ℕ → List ℕ
gap_before width hidden rest = if hidden then rest else gap_row width ++ rest

-- the rows of lines from a number on, where the line before is hidden or not
unfoldable pub rows_from : (ℕ → Bool) → (ℕ → List ℕ → List ℕ) → ℕ → Bool → ℕ → List (List ℕ) → List ℕ
rows_from shown row width hidden number [] = []
rows_from shown row width hidden number (line ∷ lines) =
    if shown number then row number line ++ rows_from shown row width false (number + 1) lines
    else gap_before width hidden (rows_from shown row width true (number + 1) lines)

-- how wide the numbers of so many lines are
abbrev pub width_of : ℕ → ℕ
width_of count = max 6 (length (decimal count))

abbrev pub rows : List ℕ → List Mark → Shown → List ℕ
rows text marks shown =
    let width = width_of (length (lines_of text marks)) in
    let order = by_offset (length text) marks in
    rows_from (is_shown shown (map (mark_line text) order)) (full_row width text order) width false 1 (lines_of text marks)

-- rows in their frame
abbrev pub framed : List ℕ → List ℕ
framed rows = codes "Input was:\n<<<<<<\n" ++ rows ++ codes ">>>>>>\n"

-- the whole
abbrev pub dump : List ℕ → List Mark → Shown → List ℕ
dump text marks shown = framed (rows text marks shown)
