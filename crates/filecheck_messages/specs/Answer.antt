-- What is told of a run, and its status: a row for each refusal, in the order of docs/PROFILE.md.
-- After LLVM Command Guide, FileCheck: 0 where the input matches, 1 where it doesn't. Own rules: the texts, and the
-- statuses 2 for a refusal and 3 for a fault of reading.
use Rattle.std.specs.Prelude.{ℕ, ◌==◌, if◌then◌else◌, List, [], ◌∷◌, ◌++◌, codes, Option, Some, None, Result, Ok, Err}
use Rattle.std.specs.Fmt.{decimal}
use Rattle.check_lines.specs.declared.fault.LineFault.{LineFault}
use Rattle.check_lines.specs.declared.fault.LineFault.TheVariants as line
use Rattle.ere_tree.specs.declared.fault.EreKind.{EreKind}
use Rattle.ere_tree.specs.declared.fault.EreKind.TheVariants as ere
use Rattle.filecheck_words.specs.declared.fault.WordsFault.{WordsFault}
use Rattle.filecheck_words.specs.declared.fault.WordsFault.TheVariants.{NotText, Faulty, Misfit, NotOneFile, BadPrefix, PrefixTwice, BadImplicit}
use Rattle.opt_words.specs.Fault.{text_before, text_behind}
use Rattle.pattern_parse.specs.declared.fault.PatKind.{PatKind}
use Rattle.pattern_parse.specs.declared.fault.PatKind.TheVariants as pat
use Rattle.filecheck_messages.specs.Message.{made_text, placed, told, unplaced}
use Rattle.filecheck_messages.specs.declared.refusal.Refusal.{Refusal}
use Rattle.filecheck_messages.specs.declared.refusal.Refusal.TheVariants.{Words, NotFound, TooLarge, BadLine, NoChecks, UnusedPrefix, BadBody, BadDefine, IsEmpty, BadMake}
use Rattle.filecheck_messages.specs.declared.refusal.Stop.{Stop}
use Rattle.filecheck_messages.specs.declared.refusal.Stop.TheVariants.{Refused, NotReadable}
use Rattle.filecheck_messages.specs.declared.finding.Finding.{Finding}
use Rattle.filecheck_messages.specs.declared.report.Made.{Made as Counts}
use Rattle.filecheck_messages.specs.declared.report.Report.{Report}
use Rattle.filecheck_messages.specs.declared.report.Report.TheVariants.{Found, Made, Checks}
use Rattle.make_checks.specs.declared.fault.MakeFault.{MakeFault}
use Rattle.make_checks.specs.declared.fault.MakeFault.TheVariants as make
use Rattle.tt_run.specs.declared.answer.Answer.{Answer}

-- what is told of words
abbrev pub words_text : WordsFault → List ℕ
words_text NotText = unplaced (codes "a word isn't text")
words_text (Faulty fault word) = unplaced (text_before fault ++ word ++ text_behind fault)
words_text Misfit = unplaced (codes "these options don't fit together")
words_text NotOneFile = unplaced (codes "one check file is needed")
words_text (BadPrefix prefix) = unplaced (codes "bad prefix '" ++ prefix ++ codes "'")
words_text (PrefixTwice prefix) = unplaced (codes "prefix '" ++ prefix ++ codes "' given twice")
words_text (BadImplicit value) = unplaced (codes "bad pattern '" ++ value ++ codes "'")

-- what is told of a regular expression
abbrev pub regex_text : EreKind → List ℕ
regex_text ere.EmptyAlternative = codes "bad regex: EmptyAlternative"
regex_text ere.RepeatOfNothing = codes "bad regex: RepeatOfNothing"
regex_text ere.BadBound = codes "bad regex: BadBound"
regex_text ere.UnclosedGroup = codes "bad regex: UnclosedGroup"
regex_text ere.StrayClose = codes "bad regex: StrayClose"
regex_text ere.UnclosedBracket = codes "bad regex: UnclosedBracket"
regex_text ere.BadRange = codes "bad regex: BadRange"
regex_text ere.UnknownClass = codes "bad regex: UnknownClass"
regex_text ere.UnsupportedBracket = codes "bad regex: UnsupportedBracket"
regex_text ere.BadReference = codes "bad regex: BadReference"
regex_text ere.TrailingBackslash = codes "bad regex: TrailingBackslash"
regex_text ere.TooLarge = codes "bad regex: TooLarge"
regex_text ere.TooDeep = codes "bad regex: TooDeep"

-- what is told of a line of the check file
abbrev pub line_text : LineFault → List ℕ
line_text line.BadCount = codes "bad count"
line_text line.NotCombination = codes "NOT can't be combined"
line_text line.BadModifier = codes "bad modifier"
line_text line.EmptyPattern = codes "empty pattern"
line_text line.NonEmptyForEmpty = codes "EMPTY takes no pattern"
line_text line.NoEarlierCheck = codes "no earlier check"

-- what is told of a body
abbrev pub body_text : PatKind → List ℕ
body_text pat.TooLong = codes "pattern too long"
body_text pat.NoRegexEnd = codes "no '}}' for this regex"
body_text pat.NoBlockEnd = codes "no ']]' for this block"
body_text (pat.BadRegex fault) = regex_text fault.kind
body_text pat.BadName = codes "bad name"
body_text pat.BadFormat = codes "bad format"
body_text pat.BadExpr = codes "bad expression"
body_text pat.FormatConflict = codes "formats differ"
body_text pat.SameLineNumber = codes "number defined on the same line"
body_text pat.VariableInLabel = codes "variable in a label"
body_text pat.TooManyReferences = codes "more than nine references"

-- what is told of a check file that isn't made
abbrev pub make_text : MakeFault → List ℕ
make_text make.BadLead = unplaced (codes "bad lead")
make_text (make.LineTooLong line) = unplaced (codes "line " ++ decimal line ++ codes " is too long")
make_text make.TooLarge = unplaced (codes "check file would be too large")

-- the table
abbrev pub text_of : Refusal → List ℕ
text_of (Words fault) = words_text fault
text_of (NotFound name) = unplaced (codes "'" ++ name ++ codes "' not found")
text_of (TooLarge name) = unplaced (codes "'" ++ name ++ codes "' is too large")
text_of (BadLine fault spot) = placed spot (codes "error: " ++ line_text fault)
text_of (NoChecks name) = unplaced (codes "no checks in '" ++ name ++ codes "'")
text_of (UnusedPrefix prefix) = unplaced (codes "prefix '" ++ prefix ++ codes "' isn't used")
text_of (BadBody kind spot) = placed spot (codes "error: " ++ body_text kind)
text_of (BadDefine value) = unplaced (codes "bad definition '" ++ value ++ codes "'")
text_of (IsEmpty name) = unplaced (codes "'" ++ name ++ codes "' is empty")
text_of (BadMake fault) = make_text fault

-- an answer that tells something on the error stream alone
abbrev pub telling : ℕ → List ℕ → Answer
telling status message = record { out = []; err = message; status = status }

-- a refusal has status 2, and a fault of reading 3
abbrev pub row_of : Stop → Answer
row_of (Refused refusal) = telling 2 (text_of refusal)
row_of (NotReadable name) = telling 3 (unplaced (codes "cannot read '" ++ name ++ codes "'"))

-- a verdict has status 0 where nothing was found amiss, and 1 with what was
abbrev pub verdict_row : List Finding → Answer
verdict_row [] = telling 0 []
verdict_row (finding ∷ later) = telling 1 (told (finding ∷ later))

-- behind it stands the annotated input, if there is one
abbrev pub with_dump : Answer → Option (List ℕ) → Answer
with_dump answer None = answer
with_dump answer (Some rows) = record { out = answer.out; err = answer.err ++ rows; status = answer.status }

-- the same of checks and an input that were made, of which counts are told
abbrev pub made_row : Counts → Answer
made_row made = record { out = made_text made; err = []; status = if made.faults == 0 then 0 else 1 }

-- a check file that is made is written
abbrev pub text_row : List ℕ → Answer
text_row text = record { out = text; err = []; status = 0 }

abbrev pub report_row : Report → Answer
report_row (Found findings rows) = with_dump (verdict_row findings) rows
report_row (Made made) = made_row made
report_row (Checks text) = text_row text

-- what is told of a run
abbrev pub answer_to : Result Report Stop → Answer
answer_to (Ok report) = report_row report
answer_to (Err stop) = row_of stop
