-- The check file: its text and directives, or a refusal, and what is told of a directive.
-- After LLVM Command Guide, FileCheck: the prefix with its suffix names a directive. Own rules: the file is read whole,
-- and its first line that is refused refuses it; --implicit-check-not's directives are texts of their own, a line each.
use Rattle.std.specs.Prelude.{◌<◌, ◌≤◌, ◌^◌, ℕ, ◌+◌, ◌-◌, ◌&&◌, List, [], ◌++◌, codes, length, min, slice_get, slice_index_or, All, Option, Some, None, Result, Ok, Err}
use Rattle.check_lines.specs.Canonical.{canon}
use Rattle.check_lines.specs.Checks.{IsPlaced, read_checks}
use Rattle.check_lines.specs.Kind.{suffix_of}
use Rattle.check_lines.specs.declared.directive.Directive.{Directive}
use Rattle.check_lines.specs.declared.fault.CheckFault.{CheckFault}
use Rattle.check_lines.specs.declared.fault.CheckKind.{CheckKind}
use Rattle.check_lines.specs.declared.fault.CheckKind.TheVariants.{Line, NoChecks as HasNoChecks, UnusedPrefix as IsUnused}
use Rattle.check_lines.specs.declared.kind.Kind.{Kind}
use Rattle.check_lines.specs.declared.kind.Kind.TheVariants.{Not}
use Rattle.filecheck_messages.specs.Refusal.{◌>>=◌, Gives, accepted}
use Rattle.filecheck_messages.specs.Spot.{spot_at}
use Rattle.filecheck_tool.specs.declared.check_file.CheckFile.{CheckFile}
use Rattle.filecheck_messages.specs.declared.refusal.Refusal.{Refusal}
use Rattle.filecheck_messages.specs.declared.refusal.Refusal.TheVariants.{NotFound, TooLarge, BadLine, NoChecks, UnusedPrefix}
use Rattle.filecheck_messages.specs.declared.refusal.StepFail.{StepFail}
use Rattle.filecheck_messages.specs.declared.refusal.Stop.{Stop}
use Rattle.filecheck_messages.specs.declared.refusal.Stop.TheVariants.{Refused, NotReadable}
use Rattle.filecheck_messages.specs.declared.spot.Spot.{Spot}
use Rattle.filecheck_tool.specs.declared.start.Start.{Start}
use Rattle.tt_run.specs.declared.reading.Reading.{Reading}
use Rattle.tt_run.specs.declared.reading.Reading.TheVariants.{Whole, Missing, TooLarge as PastLimit, Failed}

-- the bytes that reading gave
abbrev pub whole : List ℕ → Reading → Result (List ℕ) Stop
whole name (Whole bytes) = Ok bytes
whole name Missing = Err (Refused (NotFound name))
whole name PastLimit = Err (Refused (TooLarge name))
whole name Failed = Err (NotReadable name)

-- a refusal of the check file, with the spot of its offset
abbrev pub refusal_of : List (List ℕ) → CheckKind → List ℕ → Spot → Refusal
refusal_of prefixes (Line fault) name spot = BadLine fault spot
refusal_of prefixes HasNoChecks name spot = NoChecks name
refusal_of prefixes (IsUnused index) name spot = UnusedPrefix (slice_index_or prefixes index [])

abbrev pub refusal_at : List (List ℕ) → List ℕ → List ℕ → CheckFault → Refusal
refusal_at prefixes name text fault = refusal_of prefixes fault.kind name (spot_at name text fault.at)

-- the check file of these directives
abbrev pub with_directives : Start → List ℕ → List Directive → CheckFile
with_directives start text directives =
    record { asked = start.asked; made = start.made; text = text; directives = directives }

abbrev pub check_file_of : Start → List ℕ → Result (List Directive) CheckFault → Result CheckFile Refusal
check_file_of start text (Ok directives) = Ok (with_directives start text directives)
check_file_of start text (Err fault) = Err (refusal_at start.asked.prefixes.checks start.asked.name text fault)

-- the check file of a canonical text; with --strict-whitespace and --match-full-lines the blanks at both ends of a body
-- count
abbrev pub check_file_in : Start → List ℕ → Result CheckFile Refusal
check_file_in start text =
    let asked = start.asked in
    check_file_of start text
    (read_checks asked.prefixes.checks asked.prefixes.comments asked.allow_unused (asked.strict && asked.full_lines)
    asked.may_lack text)

-- its directives, or what refuses it
abbrev pub GivesFile : Start → List ℕ → Result (List Directive) StepFail → Type 0
GivesFile start text result = Gives (with_directives start text) result (accepted (check_file_in start text))

-- the check file that reading gave
abbrev pub check_file_read : Start → Reading → Result CheckFile Stop
check_file_read start file = do
  bytes ← whole start.asked.name file
  accepted (check_file_in start (canon start.asked.strict bytes))

-- what a check file was begun with
abbrev pub start_behind : CheckFile → Start
start_behind file = record { asked = file.asked; made = file.made }

-- the bodies of directives lie in the text, each where it tells
pub record HasBodies (file : CheckFile) : Type 0 where
  pub small : length file.text ≤ 2 ^ 30
  pub placed : All (IsPlaced file.text (length file.asked.prefixes.checks)) file.directives

-- ---- what is told of a directive, by its number: those of lines, and the implicit ones behind them

-- a number is that of a directive
abbrev pub IsNumber : CheckFile → ℕ → Type 0
IsNumber file number = number < length file.directives + length file.asked.implicit

-- the number of an implicit directive among them, from 0
abbrev pub implicit_at : CheckFile → ℕ → ℕ
implicit_at file number = number - length file.directives

-- the text of an implicit directive; lines past the greatest have that one
abbrev pub implicit_spot : List ℕ → ℕ → Spot
implicit_spot body index = record {
  name = codes "<implicit-check-not>";
  place = record { line = min (index + 1) 4294967295; col = 1 };
  line = body;
}

-- where its body begins
abbrev pub spot_by : CheckFile → ℕ → Option Directive → Spot
spot_by file index (Some directive) = spot_at file.asked.name file.text directive.body.from
spot_by file index None = implicit_spot (slice_index_or file.asked.implicit index []) index

abbrev pub body_spot : CheckFile → ℕ → Spot
body_spot file number = spot_by file (implicit_at file number) (slice_get file.directives number)

-- its kind
abbrev pub kind_by : Option Directive → Kind
kind_by (Some directive) = directive.kind
kind_by None = Not

abbrev pub kind_of : CheckFile → ℕ → Kind
kind_of file number = kind_by (slice_get file.directives number)

-- its name
abbrev pub name_by : CheckFile → Option Directive → List ℕ
name_by file (Some directive) =
    slice_index_or file.asked.prefixes.checks directive.prefix [] ++ suffix_of directive.kind
name_by file None = codes "IMPLICIT-CHECK-NOT"

abbrev pub name_of : CheckFile → ℕ → List ℕ
name_of file number = name_by file (slice_get file.directives number)
