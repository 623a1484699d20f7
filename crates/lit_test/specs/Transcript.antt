-- The transcript of a test.
-- Own rule: for each RUN line that began its text, and behind it what each of its commands lacked and wrote; what doesn't end
-- in a newline gets one.
use Rattle.std.specs.Prelude.{codes, ◌==◌, ◌+◌, ◌-◌, ℕ, Bool, nat_lt, if◌then◌else◌, List, [], ◌∷◌, ◌++◌, length, get_or, decimal, Option, Some, None}
use Rattle.lit_directives.specs.declared.script.RunLine.{RunLine}
use Rattle.shell_play.specs.declared.told.LackNote.{LackNote}
use Rattle.shell_play.specs.declared.told.LackNote.TheVariants.{NoProgram, NoFile, NoWrite}
use Rattle.shell_play.specs.declared.told.Told.{Told}
use Rattle.test_plan.specs.declared.cause.Cause.{Cause}
use Rattle.lit_test.specs.Names.{cause_name}

abbrev pub ends_line : List ℕ → Bool
ends_line bytes = get_or bytes (length bytes - 1) 0 == 10

-- a text that ends in a newline, which it gets where it has none
unfoldable pub ended : List ℕ → List ℕ
ended bytes = if ends_line bytes then bytes else bytes ++ codes "\n"

-- ---- a command

abbrev pub note_text : LackNote → List ℕ
note_text (NoProgram word) = ended (codes "# no such program: " ++ word)
note_text (NoFile path) = ended (codes "# no such file: " ++ path)
note_text (NoWrite path) = ended (codes "# cannot write: " ++ path)

abbrev pub notes_text : List LackNote → List ℕ
notes_text [] = []
notes_text (note ∷ notes) = note_text note ++ notes_text notes

-- a head and the bytes of a stream, where it has any
abbrev pub stream_text : List ℕ → List ℕ → List ℕ
stream_text head bytes = if length bytes == 0 then [] else ended (head ++ bytes)

-- a head and a number on a line
abbrev pub number_text : List ℕ → ℕ → List ℕ
number_text head number = head ++ decimal number ++ codes "\n"

abbrev pub status_text : Option ℕ → List ℕ
status_text None = []
status_text (Some status) = if status == 0 then [] else number_text (codes "# status: ") status

-- what a command lacked and wrote, and its status
unfoldable pub told_text : Told → List ℕ
told_text told =
    notes_text told.notes ++ stream_text (codes "# output:\n") told.out ++ stream_text (codes "# errors:\n") told.err
    ++ status_text told.status

-- ---- a line

-- what the commands of a line did
abbrev pub texts_on : ℕ → List Told → List ℕ
texts_on line [] = []
texts_on line (told ∷ more) = (if told.line == line then told_text told else []) ++ texts_on line more

unfoldable pub run_text : RunLine → List ℕ
run_text run = codes "RUN: line " ++ decimal run.line ++ ended (codes ": " ++ run.text)

-- the lines from one on, as far as they began, each with its commands
abbrev pub lines_text : ℕ → List RunLine → ℕ → List Told → List ℕ
lines_text line [] began told = []
lines_text line (run ∷ runs) began told =
    if nat_lt line began
    then run_text run ++ texts_on line told ++ lines_text (line + 1) runs began told
    else []

-- ---- an attempt

-- how many attempts there were, where there was more than one
abbrev pub attempts_text : ℕ → List ℕ
attempts_text attempts = if nat_lt 1 attempts then number_text (codes "# attempts: ") attempts else []

-- so many attempts, of which the last one's lines began and whose commands did this
abbrev pub seen_text : List RunLine → ℕ → ℕ → List Told → List ℕ
seen_text runs attempts began told = attempts_text attempts ++ lines_text 0 runs began told

-- ---- without one

abbrev pub unsupported_text : List ℕ
unsupported_text = codes "# not supported\n"

abbrev pub unresolved_text : Cause → List ℕ
unresolved_text cause = codes "# unresolved: " ++ cause_name cause ++ codes "\n"
