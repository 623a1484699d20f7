-- The messages of FileCheck, byte by byte.
-- Own texts, laid out after the messages of FileCheck: a place, what is wrong there, the line, and a mark below it.
use Rattle.std.specs.Prelude.{ℕ, ◌-◌, ◌==◌, if◌then◌else◌, Option, Some, None, List, [], ◌∷◌, ◌++◌, codes, replicate}
use Rattle.std.specs.Fmt.{decimal}
use Rattle.std.specs.List.{flat_map}
use Rattle.check_group.specs.declared.fault.FaultKind.{FaultKind}
use Rattle.check_group.specs.declared.fault.FaultKind.TheVariants as fault
use Rattle.filecheck_messages.specs.declared.finding.Finding.{Finding}
use Rattle.filecheck_messages.specs.declared.finding.Note.{Note}
use Rattle.filecheck_messages.specs.declared.finding.Remark.{Remark}
use Rattle.filecheck_messages.specs.declared.finding.Remark.TheVariants.{ScanningFrom, MatchWasHere, PreviousEnded, FoundHere}
use Rattle.filecheck_messages.specs.declared.report.Made.{Made}
use Rattle.filecheck_messages.specs.declared.spot.Spot.{Spot}
use Rattle.tt_run.specs.Frame.{error_text, newline}

-- what stands before a message at a spot: the place
abbrev pub place_text : Spot → List ℕ
place_text spot = spot.name ++ codes ":" ++ decimal spot.place.line ++ codes ":" ++ decimal spot.place.col ++ codes ": "

-- what stands behind it: the text of the line, and `^` below the column
abbrev pub line_below : Spot → List ℕ
line_below spot = newline ++ spot.line ++ newline ++ replicate (spot.place.col - 1) 32 ++ codes "^" ++ newline

-- a message at a spot
abbrev pub placed : Spot → List ℕ → List ℕ
placed spot what = place_text spot ++ what ++ line_below spot

-- a message that is told of no place
abbrev pub unplaced : List ℕ → List ℕ
unplaced text = error_text (codes "filecheck") text

-- ---- what is found amiss

-- names with commas between them
abbrev pub behind_comma : List ℕ → List ℕ
behind_comma name = codes ", " ++ name

abbrev pub listed : List (List ℕ) → List ℕ
listed [] = []
listed (name ∷ names) = name ++ flat_map behind_comma names

abbrev pub names_text : List (List ℕ) → List ℕ
names_text names = codes "uses undefined variables: " ++ listed names

-- where `done` matches are found: how many of how many, where that is told
abbrev pub found_text : Option ℕ → ℕ → List ℕ
found_text None done = []
found_text (Some times) done = codes " (" ++ decimal done ++ codes " of " ++ decimal times ++ codes " found)"

abbrev pub missing_text : Option ℕ → ℕ → List ℕ
missing_text times done = codes "expected string not found in input" ++ found_text times done

-- a match that isn't on the next line
abbrev pub wrong_line_text : ℕ → List ℕ
wrong_line_text newlines =
    if newlines == 0 then codes "is on the same line as previous match"
    else codes "is not on the line after the previous match"

-- what is wrong with a directive, of which so many matches are asked for where that is told
abbrev pub fault_text : Option ℕ → FaultKind → List ℕ
fault_text times (fault.NotFound from done) = missing_text times done
fault_text times (fault.WrongLine found last newlines) = wrong_line_text newlines
fault_text times (fault.NotSameLine found last) = codes "is not on the same line as previous match"
fault_text times (fault.Excluded found) = codes "excluded string found in input"
fault_text times (fault.Undefined names) = names_text names
fault_text times fault.Range = codes "numeric value out of range"
fault_text times fault.ZeroDivisor = codes "division by zero"
fault_text times (fault.Unreadable found) = codes "matched number out of range"

-- what is told of a place in the input
abbrev pub remark_text : Remark → List ℕ
remark_text ScanningFrom = codes "note: scanning from here"
remark_text MatchWasHere = codes "note: match was here"
remark_text PreviousEnded = codes "note: previous match ended here"
remark_text FoundHere = codes "note: found here"

abbrev pub note_text : Note → List ℕ
note_text note = placed note.spot (remark_text note.remark)

abbrev pub notes_text : List Note → List ℕ
notes_text notes = flat_map note_text notes

-- a directive by its name, and what is wrong with it
abbrev pub wrong_text : Finding → List ℕ
wrong_text finding = codes "error: " ++ finding.name ++ codes ": " ++ fault_text finding.times finding.fault

-- a directive that isn't met, and the places in the input
abbrev pub told_of : Finding → List ℕ
told_of finding = placed finding.check (wrong_text finding) ++ notes_text finding.notes

-- what is told of findings, in order
abbrev pub told : List Finding → List ℕ
told findings = flat_map told_of findings

-- what is told of checks and an input that were made
abbrev pub made_text : Made → List ℕ
made_text made =
    codes "generated: checks " ++ decimal made.checks ++ codes ", input bytes " ++ decimal made.bytes
    ++ codes ", faults " ++ decimal made.faults ++ newline
