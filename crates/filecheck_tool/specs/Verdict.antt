-- The input, and what is told of it.
-- After LLVM Command Guide, FileCheck: --input-file, and an empty input is refused without --allow-empty. Own rule: of
-- checks and an input that were made, counts are told.
use Rattle.std.specs.Prelude.{ℕ, Bool, if◌then◌else◌, List, [], ◌∷◌, ◌++◌, codes, length, map, Contains, Option, Some, None, Result, Ok, Err}
use Rattle.check_group.specs.Changes.{Variables}
use Rattle.check_group.specs.Lies.{FaultLies, numbers_of}
use Rattle.check_group.specs.declared.directive.Check.{Check}
use Rattle.check_group.specs.declared.fault.Fault.{Fault}
use Rattle.check_group.specs.declared.fault.FaultKind.{FaultKind}
use Rattle.check_group.specs.declared.fault.FaultKind.TheVariants as fault
use Rattle.check_lines.specs.Canonical.{canon}
use Rattle.check_scan.specs.Verdict.{scan}
use Rattle.check_scan.specs.declared.subject.Subject.{Subject}
use Rattle.filecheck_words.specs.declared.checking.Input.{Input}
use Rattle.filecheck_words.specs.declared.checking.Input.TheVariants.{Standard, Named}
use Rattle.check_lines.specs.Kind.{row_of}
use Rattle.check_lines.specs.declared.kind.Kind.{Kind}
use Rattle.filecheck_tool.specs.CheckFile.{body_spot, kind_of, name_of, whole}
use Rattle.filecheck_tool.specs.Dump.{dump_due}
use Rattle.filecheck_messages.specs.Refusal.{◌>>=◌, accepted}
use Rattle.filecheck_messages.specs.Spot.{spot_at}
use Rattle.filecheck_tool.specs.declared.check_file.CheckFile.{CheckFile}
use Rattle.filecheck_messages.specs.declared.finding.Finding.{Finding}
use Rattle.filecheck_messages.specs.declared.finding.Note.{Note}
use Rattle.filecheck_messages.specs.declared.finding.Remark.{Remark}
use Rattle.filecheck_messages.specs.declared.finding.Remark.TheVariants.{ScanningFrom, MatchWasHere, PreviousEnded, FoundHere}
use Rattle.filecheck_tool.specs.declared.program.AcceptedFile.{AcceptedFile}
use Rattle.filecheck_messages.specs.declared.refusal.Refusal.{Refusal}
use Rattle.filecheck_messages.specs.declared.refusal.Refusal.TheVariants.{IsEmpty}
use Rattle.filecheck_messages.specs.declared.refusal.Stop.{Stop}
use Rattle.filecheck_messages.specs.declared.report.Made.{Made as Counts}
use Rattle.filecheck_messages.specs.declared.report.Report.{Report}
use Rattle.filecheck_messages.specs.declared.report.Report.TheVariants.{Found, Made}
use Rattle.tt_run.specs.declared.reading.Reading.{Reading}

-- ---- what a scan finds

abbrev pub faults_of : List Check → Subject → Bool → Variables → List Fault
faults_of checks subject scope vars = (scan checks subject.always.now scope subject.text.now vars).faults

-- a fault is of one of the directives, and lies in the text
abbrev pub LiesIn : List Check → Subject → Fault → Type 0
LiesIn checks subject = FaultLies (Contains (numbers_of (checks ++ subject.always.now))) (length subject.text.now)

-- ---- the input

-- how the input is named
abbrev pub input_name : Input → List ℕ
input_name Standard = codes "<stdin>"
input_name (Named name) = name

-- bytes, of which there may be none or not
abbrev pub filled : Bool → List ℕ → List ℕ → Result (List ℕ) Refusal
filled allow name (byte ∷ bytes) = Ok (byte ∷ bytes)
filled allow name [] = if allow then Ok [] else Err (IsEmpty name)

-- ---- what is told of a fault

-- how many matches a kind asks for, where that is told
abbrev pub told_times : Kind → Option ℕ
told_times kind = if (row_of kind).counted then Some (row_of kind).demand.times else None

-- a place in the input
abbrev pub note_at : Remark → List ℕ → List ℕ → ℕ → Note
note_at remark name input at = record { remark = remark; spot = spot_at name input at }

abbrev pub one_note : Remark → List ℕ → List ℕ → ℕ → List Note
one_note remark name input at = note_at remark name input at ∷ []

abbrev pub both_notes : List ℕ → List ℕ → ℕ → ℕ → List Note
both_notes name input found last = note_at MatchWasHere name input found ∷ note_at PreviousEnded name input last ∷ []

-- the places in the input that are told with a fault
abbrev pub notes_of : List ℕ → List ℕ → FaultKind → List Note
notes_of name input (fault.NotFound from done) = one_note ScanningFrom name input from
notes_of name input (fault.WrongLine found last newlines) = both_notes name input found last
notes_of name input (fault.NotSameLine found last) = both_notes name input found last
notes_of name input (fault.Excluded found) = one_note FoundHere name input found
notes_of name input (fault.Undefined names) = []
notes_of name input fault.Range = []
notes_of name input fault.ZeroDivisor = []
notes_of name input (fault.Unreadable found) = one_note FoundHere name input found

-- what is told of a directive that isn't met
abbrev pub finding_of : CheckFile → List ℕ → Fault → Finding
finding_of file input fault = record {
  name = name_of file fault.directive;
  fault = fault.kind;
  times = told_times (kind_of file fault.directive);
  check = body_spot file fault.directive;
  notes = notes_of (input_name file.asked.input) input fault.kind;
}

-- what is told of faults, in order
abbrev pub findings_of : CheckFile → List ℕ → List Fault → List Finding
findings_of file input faults = map (finding_of file input) faults

-- ---- the verdict

-- what is told of checks and an input that were made
abbrev pub made_of : ℕ → ℕ → List Fault → Counts
made_of checks bytes faults = record { checks = checks; bytes = bytes; faults = length faults }

abbrev pub report_of : Option ℕ → CheckFile → ℕ → List ℕ → List Fault → Report
report_of (Some checks) file count input faults = Made (made_of checks count faults)
report_of None file count input faults = Found (findings_of file input faults) (dump_due file input faults)

-- what is told of an input of so many bytes, by its canonical text
abbrev pub verdict : AcceptedFile → ℕ → List ℕ → Report
verdict program count input =
    report_of program.file.made program.file count input
    (scan program.checks program.always program.file.asked.var_scope input program.vars).faults

-- what is told of what reading the input gave
abbrev pub verdict_read : AcceptedFile → Reading → Result Report Stop
verdict_read program read = do
  bytes ← whole (input_name program.file.asked.input) read
  input ← accepted (filled program.file.asked.allow_empty (input_name program.file.asked.input) bytes)
  Ok (verdict program (length input) (canon program.file.asked.strict input))
