-- The answer of filecheck, as a function of its words, of what reading the check file gave, and of what reading the input gave.
-- Own rule: the first refusal is the answer, of the words, then of the check file, then of the input. With --generate both texts are
-- made, and what reading gave isn't looked at; with --make-checks and --refresh the input is made a check file of.
use Rattle.std.specs.Prelude.{◌≡◌, ◌≤◌, ◌^◌, ⊤, ℕ, List, [], length, Option, Some, None, Result, Ok, Err}
use Rattle.filecheck_words.specs.Making.{HasTextNames}
use Rattle.filecheck_words.specs.declared.checking.Input.{Input}
use Rattle.filecheck_words.specs.declared.checking.Input.TheVariants.{Standard, Named}
use Rattle.filecheck_words.specs.declared.fault.WordsFault.{WordsFault}
use Rattle.filecheck_words.specs.declared.job.Job.{Job}
use Rattle.filecheck_words.specs.declared.job.Job.TheVariants as jobs
use Rattle.filecheck_words.specs.declared.making.Making.{Making}
use Rattle.filecheck_messages.specs.Answer.{answer_to}
use Rattle.filecheck_messages.specs.Refusal.{◌>>=◌}
use Rattle.filecheck_messages.specs.declared.refusal.Refusal.TheVariants.{Words}
use Rattle.filecheck_messages.specs.declared.refusal.Stop.{Stop}
use Rattle.filecheck_messages.specs.declared.refusal.Stop.TheVariants.{Refused}
use Rattle.filecheck_messages.specs.declared.report.Report.{Report}
use Rattle.filecheck_tool.specs.CheckFile.{whole}
use Rattle.filecheck_tool.specs.Making.{made_read}
use Rattle.filecheck_tool.specs.Program.{IsProgram, IsSound}
use Rattle.filecheck_tool.specs.Start.{start_made, start_with}
use Rattle.filecheck_tool.specs.Verdict.{verdict_read}
use Rattle.filecheck_tool.specs.declared.file_names.Names.{Names}
use Rattle.filecheck_tool.specs.declared.plan.InputPlan.{InputPlan}
use Rattle.filecheck_tool.specs.declared.plan.InputPlan.TheVariants.{Check, Make}
use Rattle.filecheck_tool.specs.declared.start.Start.{Start}
use Rattle.generator.specs.Generated.{checks_text, input_text}
use Rattle.tt_run.specs.declared.answer.Answer.{Answer}
use Rattle.tt_run.specs.declared.reading.Reading.{Reading}
use Rattle.tt_run.specs.declared.reading.Reading.TheVariants.{Whole}

-- ---- what is asked for

-- the check file, unless it is made
abbrev pub checks_asked : Job → Option (List ℕ)
checks_asked (jobs.Check asked) = Some asked.name
checks_asked (jobs.Generate count) = None
checks_asked (jobs.Make making) = making.old

-- the input, unless it is made
abbrev pub unless_made : Option ℕ → Input → Option Input
unless_made None input = Some input
unless_made (Some count) input = None

abbrev pub input_asked : InputPlan → Option Input
input_asked (Check program) = unless_made program.file.made program.file.asked.input
input_asked (Make making old) = Some making.input

-- the file that an input is, if it is one
abbrev pub file_of : Input → Option (List ℕ)
file_of Standard = None
file_of (Named name) = Some name

-- the files that an answer is read from, unless the words are refused
abbrev pub names_of : Result Job WordsFault → Option Names
names_of (Ok (jobs.Check asked)) = Some (record { check = Some asked.name; input = file_of asked.input })
names_of (Ok (jobs.Generate count)) = Some (record { check = None; input = None })
names_of (Ok (jobs.Make making)) = Some (record { check = making.old; input = file_of making.input })
names_of (Err fault) = None

-- ---- what is to be done with the input

-- what begins so, and reading a check file that gave this, come to this plan: to check by a program
abbrev pub IsChecking : Start → Reading → Result InputPlan Stop → Type 0
IsChecking start file (Ok (Check program)) = IsProgram start file (Ok program)
IsChecking start file (Ok (Make making old)) = ⊥
IsChecking start file (Err stop) = IsProgram start file (Err stop)

-- the check file that is refreshed; there is nothing in it where none is
abbrev pub old_read : Option (List ℕ) → Reading → Result (List ℕ) Stop
old_read None file = Ok []
old_read (Some name) file = whole name file

abbrev pub make_plan : Making → Reading → Result InputPlan Stop
make_plan making file = old_read making.old file >>= (λ old. Ok (Make making old))

-- a job, and what reading the check file gave, come to this plan
abbrev pub IsPlanOf : Job → Reading → Result InputPlan Stop → Type 0
IsPlanOf (jobs.Check asked) file plan = IsChecking (start_with asked) file plan
IsPlanOf (jobs.Generate count) file plan = IsChecking (start_made count) (Whole (checks_text count)) plan
IsPlanOf (jobs.Make making) file plan = plan ≡ make_plan making file

-- words, and what reading the check file gave, come to this plan or this refusal
abbrev pub IsPlan : Result Job WordsFault → Reading → Result InputPlan Stop → Type 0
IsPlan (Ok job) file plan = IsPlanOf job file plan
IsPlan (Err fault) file plan = plan ≡ Err (Refused (Words fault))

-- a plan can be carried out
abbrev pub IsSoundPlan : InputPlan → Type 0
IsSoundPlan (Check program) = IsSound program
IsSoundPlan (Make making old) = HasTextNames making × (length old ≤ 2 ^ 30)

-- ---- what is answered

-- the input that counts: what reading gave, or the one that is made
abbrev pub input_given : Option ℕ → Reading → Reading
input_given None read = read
input_given (Some count) read = Whole (input_text count)

-- what is told of what reading the input gave
abbrev pub found_in : InputPlan → Reading → Result Report Stop
found_in (Check program) read = verdict_read program (input_given program.file.made read)
found_in (Make making old) read = made_read making old read

abbrev pub found_by : Result InputPlan Stop → Reading → Result Report Stop
found_by (Ok plan) read = found_in plan read
found_by (Err stop) read = Err stop

-- words and both readings come to this report or this refusal
abbrev pub IsOutcome : Result Job WordsFault → Reading → Reading → Result Report Stop → Type 0
IsOutcome job file read outcome = (plan : Result InputPlan Stop) × IsPlan job file plan × (outcome ≡ found_by plan read)

-- they come to this answer, by way of a plan or a refusal
abbrev pub IsAnswerBy : Result InputPlan Stop → Result Job WordsFault → Reading → Reading → Answer → Type 0
IsAnswerBy plan job file read answer = IsPlan job file plan × (answer ≡ answer_to (found_by plan read))

-- words and both readings come to this answer
abbrev pub IsAnswer : Result Job WordsFault → Reading → Reading → Answer → Type 0
IsAnswer job file read answer = (plan : Result InputPlan Stop) × IsAnswerBy plan job file read answer
