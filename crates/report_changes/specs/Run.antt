-- A run of `lit_changes`.
-- Own rule: the old report is read and then the new one, and the first refusal is the answer; what follows a refusal isn't read.
use Rattle.std.specs.Prelude.{◌≡◌, ℕ, ◌^◌, List, codes, Result, Ok, Err}
use Rattle.json_report.specs.Changes.{changes}
use Rattle.json_report.specs.Reading.{report_in}
use Rattle.json_report.specs.declared.changed.Change.{Change}
use Rattle.json_report.specs.declared.line.Line.{Line}
use Rattle.json_report.specs.declared.line.ReportFault.{ReportFault}
use Rattle.tt_outside.specs.declared.files.Files.{Ghosts as OfFiles}
use Rattle.tt_run.specs.Run.{Answers, Files, FileRead, FilesRest, IsKept, Stream, files_of}
use Rattle.tt_run.specs.declared.answer.Answer.{Answer}
use Rattle.tt_run.specs.declared.reading.Reading.{Reading}
use Rattle.tt_run.specs.declared.reading.Reading.TheVariants as reading
use Rattle.report_changes.specs.Answer.{answer_to}
use Rattle.report_changes.specs.Asked.{asked}
use Rattle.report_changes.specs.Stop.{word_at}
use Rattle.report_changes.specs.declared.asked.Reports.{Reports}
use Rattle.report_changes.specs.declared.asked.ChangesRefusal.{ChangesRefusal}
use Rattle.report_changes.specs.declared.stop.ChangesStop.{ChangesStop}
use Rattle.report_changes.specs.declared.stop.ChangesStop.TheVariants.{Words, Report}
use Rattle.report_changes.specs.declared.stop.Unread.{Unread}
use Rattle.report_changes.specs.declared.stop.Unread.TheVariants.{Missing, TooLarge, Failed, Bad}

-- ---- one report

abbrev pub or_bad : Result (List Line) ReportFault → Result (List Line) Unread
or_bad (Ok lines) = Ok lines
or_bad (Err fault) = Err (Bad fault)

-- the tests of a report by what reading it gave
abbrev pub report_read : Reading → Result (List Line) Unread
report_read (reading.Whole bytes) = or_bad (report_in bytes)
report_read reading.Missing = Err Missing
report_read reading.TooLarge = Err TooLarge
report_read reading.Failed = Err Failed

-- reading the report of a name gave these tests, or nothing
abbrev pub ReportRead : Files → List ℕ → Result (List Line) Unread → Type 0
ReportRead files name report = (read : Reading) × FileRead files (2 ^ 26) name read × (report ≡ report_read read)

-- ---- two of them

-- what the new report, which has this word, makes of the tests of the old one
abbrev pub compared : ℕ → List Line → Result (List Line) Unread → Result (List Change) ChangesStop
compared word old (Ok new) = Ok (changes old new)
compared word old (Err unread) = Err (Report word unread)

-- behind the old report the new one is read, unless that one was refused
abbrev pub BehindOld : Files → List (List ℕ) → Reports → Result (List Line) Unread → Result (List Change) ChangesStop → Type 0
BehindOld files words asked (Ok old) outcome =
    (new : Result (List Line) Unread) × ReportRead files (word_at words asked.new) new × (outcome ≡ compared asked.new old new)
BehindOld files words asked (Err unread) outcome = FilesRest files × (outcome ≡ Err (Report asked.old unread))

-- what words come to, over files as a run found and left them
abbrev pub OutcomeBy : {F : Type 0} → OfFiles F → F → F → List (List ℕ) → Result Reports ChangesRefusal → Result (List Change) ChangesStop → Type 0
OutcomeBy {F} of first last words (Ok asked) outcome =
    (middle : F) × (old : Result (List Line) Unread) × ReportRead (files_of of first middle) (word_at words asked.old) old
    × IsKept of first middle × BehindOld (files_of of middle last) words asked old outcome
OutcomeBy of first last words (Err refusal) outcome = FilesRest (files_of of first last) × (outcome ≡ Err (Words refusal))

abbrev pub OutcomeOf : {F : Type 0} → OfFiles F → F → F → List (List ℕ) → Result (List Change) ChangesStop → Type 0
OutcomeOf of first last words outcome = OutcomeBy of first last words (asked words) outcome

-- ---- a run

abbrev pub AnswerOf : {F : Type 0} → OfFiles F → F → F → List (List ℕ) → Answer → Type 0
AnswerOf of first last words answer =
    (outcome : Result (List Change) ChangesStop) × OutcomeOf of first last words outcome × (answer ≡ answer_to words outcome)

-- that answer is told, and gives the status; but for want of memory
abbrev pub Compares : {F : Type 0} → List (List ℕ) → OfFiles F → F → F → ℕ → Stream → Stream → Type 0
Compares words of first last result out err =
    Answers (codes "lit_changes") (AnswerOf of first last words) result out err
