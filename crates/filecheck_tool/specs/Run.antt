-- What a run of filecheck does to the objects that it is given.
-- Own rule: the check file is read where the words are accepted, and the input where the check file was accepted; with
-- --generate both are made, and nothing is read; with --make-checks no check file is.
use Rattle.std.specs.Prelude.{◌≡◌, ℕ, ◌^◌, List, String, codes, Option, Some, None, Result, Ok, Err}
use Rattle.std.specs.declared.alloc.Global.{Global}
use Rattle.opt_words.specs.Step.{texts}
use Rattle.filecheck_words.specs.Job.{asked_by}
use Rattle.filecheck_words.specs.declared.checking.Input.{Input}
use Rattle.filecheck_words.specs.declared.checking.Input.TheVariants.{Standard, Named}
use Rattle.filecheck_words.specs.declared.fault.WordsFault.{WordsFault}
use Rattle.filecheck_words.specs.declared.job.Job.{Job}
use Rattle.tt_outside.specs.declared.files.Files.{Ghosts as OfFiles}
use Rattle.tt_outside.specs.declared.source.Source.{Ghosts as OfSource}
use Rattle.tt_run.specs.Run.{Answers, Files, FileRead, FilesRest, IsKept, Source, SourceRead, SourceRests, Stream, files_of, source_of}
use Rattle.tt_run.specs.declared.answer.Answer.{Answer}
use Rattle.tt_run.specs.declared.reading.Reading.{Reading}
use Rattle.filecheck_tool.specs.Answer.{IsAnswerBy, IsPlanOf, checks_asked, found_in, input_asked}
use Rattle.filecheck_tool.specs.declared.plan.InputPlan.{InputPlan}
use Rattle.filecheck_messages.specs.declared.refusal.Refusal.TheVariants.{Words}
use Rattle.filecheck_messages.specs.declared.refusal.Stop.{Stop}
use Rattle.filecheck_messages.specs.declared.refusal.Stop.TheVariants.{Refused}
use Rattle.filecheck_messages.specs.declared.report.Report.{Report}

-- nobody touched the files and the input
abbrev pub AreUnread : {F I : Type 0} → F → F → I → I → Type 0
AreUnread files later input rest = (later ≡ files) × (rest ≡ input)

-- what words ask for, or the first fault
abbrev pub job_of : List (String Global) → Result Job WordsFault
job_of words = asked_by (texts words)

-- ---- what is read

-- reading the file of a name gave this; without a name nothing was read
abbrev pub FileAsked : Files → ℕ → Option (List ℕ) → Reading → Type 0
FileAsked files limit (Some name) file = FileRead files limit name file
FileAsked files limit None file = FilesRest files

-- the check file was read where the words are accepted
abbrev pub ChecksRead : Files → ℕ → Result Job WordsFault → Reading → Type 0
ChecksRead files limit (Ok job) file = FileAsked files limit (checks_asked job) file
ChecksRead files limit (Err fault) file = FilesRest files

-- reading an input gave this, and nothing else was read; without an input nothing was
abbrev pub InputAsked : Files → Source → ℕ → Option Input → Reading → Type 0
InputAsked files input limit (Some Standard) read = FilesRest files × SourceRead input limit read
InputAsked files input limit (Some (Named name)) read = SourceRests input × FileRead files limit name read
InputAsked files input limit None read = FilesRest files × SourceRests input

-- the input was read where the check file came to a plan
abbrev pub InputRead : Files → Source → ℕ → Result InputPlan Stop → Reading → Type 0
InputRead files input limit (Ok plan) read = InputAsked files input limit (input_asked plan) read
InputRead files input limit (Err stop) read = FilesRest files × SourceRests input

-- the check file was read within its limit, and then the input within its own
abbrev pub AreRead : {F : Type 0} → OfFiles F → F → F → Source → Result Job WordsFault → Result InputPlan Stop
    → Reading → Reading → Type 0
AreRead {F} of old new input job plan file read =
    (middle : F) × ChecksRead (files_of of old middle) (2 ^ 24) job file × IsKept of old middle
    × InputRead (files_of of middle new) input (2 ^ 26) plan read

-- ---- what is answered

-- words, and what was read of the check file and the input, come to this answer
abbrev pub AnswerOf : {F : Type 0} → OfFiles F → F → F → Source → Result Job WordsFault → Answer → Type 0
AnswerOf of old new input job answer =
    (plan : Result InputPlan Stop) × (file : Reading) × (read : Reading)
    × AreRead of old new input job plan file read × IsAnswerBy plan job file read answer

-- that answer is told, and gives the status; but for want of memory
abbrev pub Checks : {F : Type 0} → List (List ℕ) → OfFiles F → F → F → Source → ℕ → Stream → Stream → Type 0
Checks words of old new input result out err =
    Answers (codes "filecheck") (AnswerOf of old new input (asked_by words)) result out err

-- ---- its steps

-- from what the words ask for to what is to be done with the input
abbrev pub PlanFrom : Files → ℕ → Result Job WordsFault → Result InputPlan Stop → Type 0
PlanFrom files limit (Ok job) plan = (file : Reading) × FileAsked files limit (checks_asked job) file × IsPlanOf job file plan
PlanFrom files limit (Err fault) plan = FilesRest files × (plan ≡ Err (Refused (Words fault)))

-- from there to what is told
abbrev pub OutcomeFrom : Files → Source → ℕ → Result InputPlan Stop → Result Report Stop → Type 0
OutcomeFrom files input limit (Ok plan) outcome =
    (read : Reading) × InputAsked files input limit (input_asked plan) read × (outcome ≡ found_in plan read)
OutcomeFrom files input limit (Err stop) outcome = FilesRest files × SourceRests input × (outcome ≡ Err stop)

-- the same of files and an input as they were and are
abbrev pub ReadsChecks : {F : Type 0} → OfFiles F → F → F → Job → Reading → Type 0
ReadsChecks of old new job = FileAsked (files_of of old new) (2 ^ 24) (checks_asked job)

abbrev pub PlanOf : {F : Type 0} → OfFiles F → F → F → Result Job WordsFault → Result InputPlan Stop → Type 0
PlanOf of old new job = PlanFrom (files_of of old new) (2 ^ 24) job

abbrev pub Reads : {F I : Type 0} → OfFiles F → F → F → OfSource I → I → I → InputPlan → Reading → Type 0
Reads of old new source before now plan = InputAsked (files_of of old new) (source_of source before now) (2 ^ 26) (input_asked plan)

abbrev pub Reports : {F I : Type 0} → OfFiles F → F → F → OfSource I → I → I → Result InputPlan Stop → Result Report Stop → Type 0
Reports of old new source before now plan = OutcomeFrom (files_of of old new) (source_of source before now) (2 ^ 26) plan

-- from words to what is told
abbrev pub OutcomeOf : {F : Type 0} → OfFiles F → F → F → Source → Result Job WordsFault → Result Report Stop → Type 0
OutcomeOf {F} of old new input job outcome =
    (middle : F) × (plan : Result InputPlan Stop) × PlanFrom (files_of of old middle) (2 ^ 24) job plan × IsKept of old middle
    × OutcomeFrom (files_of of middle new) input (2 ^ 26) plan outcome
