-- How far a dump has come, and what of it is left.
-- Own rule: the marks of a line follow it, so those of the line before the one at hand come first; then the lines from there on.
use Rattle.std.specs.Prelude.{◌≡◌, ◌⊎◌, ◌≤◌, ◌<◌, ◌^◌, ℕ, true, ◌+◌, ◌-◌, ◌==◌, nat_le, if◌then◌else◌, IsTrue, Option, All, List, [], ◌∷◌, ◌++◌, false, length, drop, map, slice_index}
use Rattle.std.specs.List.{AllByRecursion, filter, flat_map, slice_split}
use Rattle.tt_base.specs.Place.{is_newline, place_at}
use Rattle.input_dump.specs.Dump.{any_close, counted, full_row, is_shown, line_at, mark_line, mark_row, on_line, rows_from}
use Rattle.input_dump.specs.Order.{AreAscending}
use Rattle.input_dump.specs.Rows.{row_bytes}
use Rattle.input_dump.specs.declared.marking.Mark.{Mark}
use Rattle.input_dump.specs.declared.row.Row.{Row}
use Rattle.input_dump.specs.declared.subject.Cursor.{Cursor}
use Rattle.input_dump.specs.declared.subject.Subject.{Subject}

-- the marks in order
abbrev pub marks_of : Subject → List Mark
marks_of subject = map (λ mark. mark.now) subject.order.items

-- those of the line before the one with a number
abbrev pub pending : List ℕ → ℕ → List Mark → List Mark
pending text number marks = filter (λ mark. mark_line text mark + 1 == number) marks

-- the lines from an offset on, at which one begins if it lies in the text
abbrev pub lines_left : Subject → ℕ → List (List ℕ)
lines_left subject start =
    if nat_le start (length subject.text.now) then counted subject.marked (slice_split is_newline (drop start subject.text.now)) else []

-- the rows that are left
abbrev pub left : Subject → Cursor → List ℕ
left subject cursor =
    flat_map (mark_row subject.width subject.text.now) (pending subject.text.now cursor.number (drop cursor.told (marks_of subject)))
    ++ rows_from (is_shown subject.shown subject.lines.items) (full_row subject.width subject.text.now (marks_of subject)) subject.width
    cursor.hidden cursor.number (lines_left subject cursor.start)

-- no row is left
abbrev pub IsAtEnd : Subject → Cursor → Type 0
IsAtEnd subject cursor = left subject cursor ≡ []

-- less is left than before
abbrev pub HasLess : Subject → Cursor → Cursor → Type 0
HasLess subject old new = length (left subject new) < length (left subject old)

-- a row is taken from the front of what is left
abbrev pub TakesRow : Subject → Cursor → Cursor → Row → Type 0
TakesRow subject old new row = row_bytes row ++ left subject new ≡ left subject old

-- a mark of the line before is to be told
abbrev pub HasMark : Subject → Cursor → Type 0
HasMark subject cursor =
    (cursor.told < length subject.lines.items) × (slice_index subject.lines.items cursor.told < cursor.number)

-- as much is left as before, no mark is to be told, and the line before is hidden
abbrev pub GoesSilently : Subject → Cursor → Cursor → Type 0
GoesSilently subject old new = (left subject new ≡ left subject old) × (¬ HasMark subject new) × (new.hidden ≡ true)

-- a line is at hand
abbrev pub HasLine : Subject → Cursor → Type 0
HasLine subject cursor =
    (cursor.start < length subject.text.now) ⊎ ((cursor.start ≡ length subject.text.now) × IsTrue subject.marked)

-- the first of these lines isn't too far before one
abbrev pub IsFirstInReach : ℕ → ℕ → List ℕ → Type 0
IsFirstInReach context number [] = Unit {0}
IsFirstInReach context number (line ∷ lines) = number ≤ line + context

-- lines that are near the same ones from a number on
abbrev pub AreNearTheSame : ℕ → ℕ → List ℕ → List ℕ → Type 0
AreNearTheSame context number lines others = (line : ℕ) → number ≤ line → any_close context line lines ≡ any_close context line others

-- the mark behind the first so many isn't too far before a line
abbrev pub IsReached : Subject → ℕ → ℕ → Type 0
IsReached subject number passed = IsFirstInReach subject.shown.context number (drop passed subject.lines.items)

-- from a line on it is one whether so many marks are passed or so many others
abbrev pub ArePassedAlike : Subject → ℕ → ℕ → ℕ → Type 0
ArePassedAlike subject number passed other =
    AreNearTheSame subject.shown.context number (drop passed subject.lines.items) (drop other subject.lines.items)

-- a line is near a mark behind the first so many where it is near one
abbrev pub IsNearAsAll : Subject → ℕ → ℕ → Type 0
IsNearAsAll subject number passed =
    any_close subject.shown.context number (drop passed subject.lines.items)
    ≡ any_close subject.shown.context number subject.lines.items

-- the lines from a number on are hidden up to another one
abbrev pub AreHidden : Subject → ℕ → ℕ → Type 0
AreHidden subject number near =
    (line : ℕ) → number ≤ line → line < near → is_shown subject.shown subject.lines.items line ≡ false

-- a line begins at an offset
abbrev pub BeginsLine : List ℕ → ℕ → Type 0
BeginsLine text start = 0 < start → is_newline (slice_index text (start - 1)) ≡ true

-- the lines are those of the marks, which stand in the text in order
pub record IsSubject (subject : Subject) : Type 0 where
  pub short : length subject.text.now ≤ 2 ^ 30
  pub within : All (λ mark. mark.now.at ≤ length subject.text.now) subject.order.items
  pub lines : subject.lines.items ≡ map (mark_line subject.text.now) (marks_of subject)
  pub ascending : AreAscending subject.lines.items
  pub narrow : subject.width ≤ 2 ^ 32

-- the place of a mark of the line that began at an offset
pub record IsColumn (text : List ℕ) (last at : ℕ) : Type 0 where
  pub behind : last ≤ at
  pub col : (place_at text at).col ≡ at - last + 1

-- a cursor stands at the beginning of a line or behind the text; the marks that it passed are near no line from here on, and those that
-- it told stand on none
pub record Follows (subject : Subject) (cursor : Cursor) : Type 0 where
  pub begins : cursor.start ≤ length subject.text.now → BeginsLine subject.text.now cursor.start
  pub within : cursor.start ≤ length subject.text.now + 1
  pub number : cursor.start ≤ length subject.text.now → cursor.number ≡ line_at subject.text.now cursor.start
  pub small : cursor.number ≤ cursor.start + 1
  pub passed_within : cursor.passed ≤ length subject.lines.items
  pub passed : AreNearTheSame subject.shown.context cursor.number (drop cursor.passed subject.lines.items) subject.lines.items
  pub told_within : cursor.told ≤ length subject.lines.items
  pub told : (line : ℕ) → cursor.number ≤ line
      → on_line subject.text.now line (drop cursor.told (marks_of subject)) ≡ on_line subject.text.now line (marks_of subject)
  pub later : AllByRecursion (λ line. cursor.number ≤ line + 1) (drop cursor.told subject.lines.items)
  pub column : (at : ℕ) → at ≤ length subject.text.now → line_at subject.text.now at + 1 ≡ cursor.number
      → IsColumn subject.text.now cursor.last at
