-- The check file with its patterns, as a program or a refusal.
-- After LLVM Command Guide, FileCheck: --ignore-case, --match-full-lines and -D. Own rule: the first body that is refused
-- is told, and behind the bodies the first value of -D that defines nothing.
use Rattle.std.specs.Prelude.{◌≡◌, ℕ, Bool, if◌then◌else◌, List, ◌++◌, length, All, IfOk, Result, Ok, Err}
use Rattle.check_group.specs.Changes.{IsReady}
use Rattle.check_group.specs.Lies.{numbers_of}
use Rattle.check_group.specs.declared.directive.Check.{Check}
use Rattle.check_program.specs.Compiled.{Body, Formats, IsProgram as HasPatterns, IsRefused, bodies_of}
use Rattle.check_program.specs.declared.program.CompileOpts.{CompileOpts}
use Rattle.check_program.specs.declared.program.Program.{Program as Patterns}
use Rattle.define_words.specs.Defined.{defined_by}
use Rattle.define_words.specs.Start.{start}
use Rattle.define_words.specs.declared.defined.Defined.{Defined}
use Rattle.filecheck_words.specs.declared.checking.Asked.{Asked}
use Rattle.pattern_parse.specs.declared.fault.PatFault.{PatFault}
use Rattle.pattern_parse.specs.declared.pattern.Frame.{Frame}
use Rattle.pattern_parse.specs.declared.pattern.Frame.TheVariants.{Open, Spaced, Tight}
use Rattle.pattern_vars.specs.declared.binding.Binding.{Binding}
use Rattle.filecheck_tool.specs.CheckFile.{HasBodies, IsNumber, body_spot, check_file_read, start_behind}
use Rattle.filecheck_messages.specs.Refusal.{Ends, LeadsTo, accepted}
use Rattle.filecheck_messages.specs.Spot.{behind}
use Rattle.filecheck_tool.specs.Start.{IsStart}
use Rattle.filecheck_tool.specs.declared.check_file.CheckFile.{CheckFile}
use Rattle.filecheck_tool.specs.declared.program.Parts.{Parts}
use Rattle.filecheck_tool.specs.declared.program.AcceptedFile.{AcceptedFile}
use Rattle.filecheck_messages.specs.declared.refusal.Refusal.{Refusal}
use Rattle.filecheck_messages.specs.declared.refusal.Refusal.TheVariants.{BadBody, BadDefine}
use Rattle.filecheck_messages.specs.declared.refusal.StepFail.{StepFail}
use Rattle.filecheck_messages.specs.declared.refusal.Stop.{Stop}
use Rattle.filecheck_messages.specs.declared.refusal.Stop.TheVariants.{Refused, NotReadable}
use Rattle.filecheck_tool.specs.declared.start.Start.{Start}
use Rattle.tt_run.specs.declared.reading.Reading.{Reading}

-- ---- patterns

-- what stands round a match, by --match-full-lines and --strict-whitespace
abbrev pub frame_by : Bool → Bool → Frame
frame_by full strict = if full then (if strict then Tight else Spaced) else Open

abbrev pub opts_of : Asked → CompileOpts
opts_of asked = record { fold = asked.fold; frame = frame_by asked.full_lines asked.strict }

-- the bodies of a check file, and behind them the implicit ones
abbrev pub bodies : CheckFile → List Body
bodies file = bodies_of file.text file.directives file.asked.implicit

-- the refusal of a body, by its number, at the byte that shows it
abbrev pub bad_body : CheckFile → ℕ → PatFault → Refusal
bad_body file number fault = BadBody fault.kind (behind (body_spot file number) fault.at)

-- the patterns of a check file where these formats are known, or the refusal of its first bad body
abbrev pub ArePatterns : CheckFile → Formats → Result Patterns Stop → Type 0
ArePatterns file known (Ok patterns) =
    (later : Formats) × HasPatterns (opts_of file.asked) (length file.directives) known (bodies file) patterns later
ArePatterns file known (Err (Refused refusal)) =
    (number : ℕ) × (fault : PatFault) × (later : Formats)
    × IsRefused (opts_of file.asked) 0 known (bodies file) number fault later × (refusal ≡ bad_body file number fault)
ArePatterns file known (Err (NotReadable name)) = ⊥

-- ---- definitions

-- what -D defines, unless a value is bad
abbrev pub fresh_of : Result (List Binding) (List ℕ) → Result (List Binding) Refusal
fresh_of (Ok fresh) = Ok fresh
fresh_of (Err value) = Err (BadDefine value)

-- ---- the program

abbrev pub program_of : CheckFile → Patterns → List Binding → AcceptedFile
program_of file patterns fresh = record {
  file = file;
  checks = patterns.checks;
  always = patterns.always;
  vars = start patterns.names fresh;
}

-- with these patterns, what -D defines comes to this program
abbrev pub IsDefinedWith : CheckFile → Patterns → Result (List Binding) Refusal → Result AcceptedFile Stop → Type 0
IsDefinedWith file patterns fresh =
    LeadsTo (accepted fresh) (λ fresh end. end ≡ Ok (program_of file patterns fresh))

-- the patterns of a check file, and then what -D defines, come to this program
abbrev pub IsCompiledWith : CheckFile → Defined → Result AcceptedFile Stop → Type 0
IsCompiledWith file values end =
    (patterns : Result Patterns Stop) × ArePatterns file values.known patterns
    × LeadsTo patterns (λ p. IsDefinedWith file p (fresh_of values.fresh)) end

-- a check file comes to this program, with the values of -D
abbrev pub IsCompiledTo : CheckFile → Result AcceptedFile Stop → Type 0
IsCompiledTo file = IsCompiledWith file (defined_by file.asked.defines)

-- what reading a check file gave comes to this program
abbrev pub IsProgram : Start → Reading → Result AcceptedFile Stop → Type 0
IsProgram start file = LeadsTo (check_file_read start file) IsCompiledTo

-- what a program has beside its check file, where checking begins
abbrev pub started : Patterns → List Binding → Parts
started patterns fresh =
    record { checks = patterns.checks; always = patterns.always; vars = start patterns.names fresh }

-- the program of a check file with what it has beside it, as far as there is any
abbrev pub joined : CheckFile → Result Parts StepFail → Result AcceptedFile StepFail
joined file (Ok parts) =
    Ok (record { file = file; checks = parts.checks; always = parts.always; vars = parts.vars })
joined file (Err fail) = Err fail

-- whatever the check file is, this is joined to what is defined with these patterns
abbrev pub Joins : Patterns → Result (List Binding) Refusal → Result Parts StepFail → Type 0
Joins patterns fresh parts = (file : CheckFile) → Ends (joined file parts) (IsDefinedWith file patterns fresh)

-- what is still to be read has a name, and the bodies lie in the text
pub record IsSoundFile (file : CheckFile) : Type 0 where
  pub start : IsStart (start_behind file)
  pub bodies : HasBodies file

-- directives are of a check file, by their numbers
abbrev pub AreOf : CheckFile → List Check → Type 0
AreOf file checks = All (IsNumber file) (numbers_of checks)

-- each directive's pattern can be sought, and its number is one of the check file
pub record HasReady (file : CheckFile) (parts : Parts) : Type 0 where
  pub ready : All (IsReady parts.vars) parts.checks
  pub always_ready : All (IsReady parts.vars) parts.always
  pub numbers : AreOf file (parts.checks ++ parts.always)

-- and so of what patterns came to, if they are of the check file
abbrev pub MakesReady : {E : Type 0} → Patterns → Result Parts E → Type 0
MakesReady patterns parts = (file : CheckFile) → AreOf file (patterns.checks ++ patterns.always) → IfOk parts (HasReady file)

-- and so of a program
pub record IsSound (program : AcceptedFile) : Type 0 where
  pub file : IsSoundFile program.file
  pub ready : All (IsReady program.vars) program.checks
  pub always_ready : All (IsReady program.vars) program.always
  pub numbers : AreOf program.file (program.checks ++ program.always)
