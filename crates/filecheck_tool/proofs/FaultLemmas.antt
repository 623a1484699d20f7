-- Status 3 comes of a fault that was counted.
-- Shown: a run that stops with status 3 had a file or an input that failed, or a stream that did. By cases on what reading
-- gave and on the groups of the table: no row of it counts here. The hard one is `fault_of_run`, which joins them.
use Rattle.std.proofs.Common.{◌≡◌, ◌⊎◌, ℕ, Bool, true, false, ◌==◌, if◌then◌else◌, List, [], ◌∷◌, Option, Some, None, Result, Ok, Err, sym, ◌∙◌, ap, subst, inl, inr, arith, length}
use Rattle.std.specs.Prelude.{⊤}
use Rattle.tt_outside.specs.Faults.{Rose}
use Rattle.tt_run.specs.Run.{FileRead, Files, Source, Stream, Written}
use Rattle.tt_run.specs.declared.answer.Answer.{Answer}
use Rattle.tt_run.specs.declared.reading.Reading.{Reading}
use Rattle.tt_run.specs.declared.reading.Reading.TheVariants.{Whole, Missing, TooLarge, Failed}
use Rattle.check_lines.specs.Canonical.{canon}
use Rattle.define_words.specs.Defined.{defined_by}
use Rattle.filecheck_words.specs.declared.checking.Input.{Input}
use Rattle.filecheck_words.specs.declared.checking.Input.TheVariants.{Standard, Named}
use Rattle.filecheck_words.specs.declared.fault.WordsFault.{WordsFault}
use Rattle.filecheck_words.specs.declared.checking.Asked.{Asked}
use Rattle.filecheck_words.specs.declared.job.Job.{Job}
use Rattle.filecheck_words.specs.declared.job.Job.TheVariants as jobs
use Rattle.filecheck_words.specs.declared.making.Making.{Making}
use Rattle.filecheck_tool.specs.Making.{checks_made, made_behind, made_read}
use Rattle.filecheck_tool.specs.declared.plan.InputPlan.{InputPlan}
use Rattle.filecheck_tool.specs.declared.plan.InputPlan.TheVariants.{Check, Make}
use Rattle.make_checks.specs.Made.{refreshed}
use Rattle.generator.specs.Generated.{checks_text, input_text}
use Rattle.filecheck_messages.specs.Answer.{answer_to}
use Rattle.filecheck_tool.specs.Answer.{IsChecking, checks_asked, found_in, input_asked, input_given, make_plan, old_read, unless_made}
use Rattle.filecheck_tool.specs.CheckFile.{check_file_in}
use Rattle.check_program.specs.declared.program.Program.{Program as Patterns}
use Rattle.filecheck_tool.specs.Program.{ArePatterns, IsCompiledTo, IsDefinedWith, IsProgram, fresh_of, program_of}
use Rattle.filecheck_messages.specs.Refusal.{◌>>=◌, LeadsTo, accepted}
use Rattle.filecheck_tool.specs.Run.{FileAsked, InputAsked, OutcomeFrom, PlanFrom}
use Rattle.filecheck_tool.specs.Start.{start_made, start_with}
use Rattle.filecheck_tool.specs.Verdict.{filled, input_name, verdict, verdict_read}
use Rattle.filecheck_tool.specs.declared.check_file.CheckFile.{CheckFile}
use Rattle.filecheck_tool.specs.declared.program.AcceptedFile.{AcceptedFile}
use Rattle.filecheck_messages.specs.declared.refusal.Refusal.{Refusal}
use Rattle.filecheck_messages.specs.declared.refusal.Stop.{Stop}
use Rattle.filecheck_messages.specs.declared.refusal.Stop.TheVariants.{Refused, NotReadable}
use Rattle.filecheck_messages.specs.declared.report.Report.{Report}
use Rattle.filecheck_messages.specs.declared.report.Report.TheVariants.{Found, Made, Checks}
use Rattle.filecheck_tool.specs.declared.start.Start.{Start}

-- a step stopped at a fault of reading
abbrev pub IsFault : {X : Type 0} → Result X Stop → Type 0
IsFault (Ok x) = ⊥
IsFault (Err (Refused refusal)) = ⊥
IsFault (Err (NotReadable name)) = ⊤

-- behind a step that reads nothing, what it leads to may stop at a fault
leads_calm : {X Y : Type 0} (step : Result X Refusal) (Next : X → Result Y Stop → Type 0) (end : Result Y Stop)
    → ((x : X) → Next x end → IsFault end → ⊥) → LeadsTo (accepted step) Next end → IsFault end → ⊥
leads_calm (Ok x) Next end calm leads is = calm x leads is
leads_calm (Err refusal) Next end calm leads is = subst IsFault leads is

no_fault_then : {X Y : Type 0} (step : Result X Refusal) (next : X → Result Y Stop) → ((x : X) → IsFault (next x) → ⊥)
    → IsFault (accepted step >>= next) → ⊥
no_fault_then (Ok x) next calm is = calm x is
no_fault_then (Err refusal) next calm is = is

no_fault_step : {X : Type 0} (step : Result X Refusal) → IsFault (accepted step) → ⊥
no_fault_step (Ok x) is = is
no_fault_step (Err refusal) is = is

-- patterns and definitions are none
patterns_calm : (file : CheckFile) (patterns : Result Patterns Stop) (end : Result AcceptedFile Stop)
    → ArePatterns file (defined_by file.asked.defines).known patterns
    → LeadsTo patterns (λ p. IsDefinedWith file p (fresh_of (defined_by file.asked.defines).fresh)) end
    → IsFault end → ⊥
patterns_calm file (Ok p) end are leads is =
    leads_calm (fresh_of (defined_by file.asked.defines).fresh) (λ fresh end. end ≡ Ok (program_of file p fresh)) end
    (λ fresh same is. subst IsFault same is) leads is
patterns_calm file (Err (Refused refusal)) end are same is = subst IsFault same is
patterns_calm file (Err (NotReadable name)) end are same is = are

compiled_calm : (file : CheckFile) (end : Result AcceptedFile Stop) → IsCompiledTo file end → IsFault end → ⊥
compiled_calm file end (patterns, are, leads) is = patterns_calm file patterns end are leads is

-- ---- counts of files that are read twice

-- a count stayed or rose
abbrev IsLater : ℕ → ℕ → Type 0
IsLater before now = (now ≡ before) ⊎ Rose before now

rose_then : (a b c : ℕ) → Rose a b → IsLater b c → Rose a c
rose_then a b c rose (inl same) = subst (λ n. Rose a n) (sym same) rose
rose_then a b c rose (inr later) = omega (arith, rose, later)

then_rose : (a b c : ℕ) → IsLater a b → Rose b c → Rose a c
then_rose a b c (inl same) rose = subst (λ n. Rose n c) same rose
then_rose a b c (inr before) rose = omega (arith, before, rose)

file_later : (files : Files) (limit : ℕ) (name : List ℕ) (read : Reading) → FileRead files limit name read
    → IsLater files.before files.now
file_later files limit name (Whole bytes) is = inl is.2
file_later files limit name Missing is = inl is.1
file_later files limit name TooLarge (size, gives, past, same) = inl same
file_later files limit name Failed is = inr is.0

asked_later : (files : Files) (limit : ℕ) (name : Option (List ℕ)) (file : Reading) → FileAsked files limit name file
    → IsLater files.before files.now
asked_later files limit (Some name) file is = file_later files limit name file is
asked_later files limit None file is = inl is.0

plan_later : (files : Files) (limit : ℕ) (job : Result Job WordsFault) (plan : Result InputPlan Stop)
    → PlanFrom files limit job plan → IsLater files.before files.now
plan_later files limit (Err fault) plan from = inl from.0.0
plan_later files limit (Ok job) plan (file, read, is) = asked_later files limit (checks_asked job) file read

input_later : (files : Files) (input : Source) (limit : ℕ) (asked : Option Input) (read : Reading)
    → InputAsked files input limit asked read → IsLater files.before files.now
input_later files input limit None read is = inl is.0.0
input_later files input limit (Some Standard) read is = inl is.0.0
input_later files input limit (Some (Named name)) read is = file_later files limit name read is.1

outcome_later : (files : Files) (input : Source) (limit : ℕ) (plan : Result InputPlan Stop) (outcome : Result Report Stop)
    → OutcomeFrom files input limit plan outcome → IsLater files.before files.now
outcome_later files input limit (Err stop) outcome from = inl from.0.0
outcome_later files input limit (Ok plan) outcome (read, is, same) = input_later files input limit (input_asked plan) read is

-- ---- what counted a fault

-- a call on files failed, which counted it and aren't steady; and one on the input
abbrev FilesFailed : Files → Type 0
FilesFailed files = Rose files.before files.now × (files.steady → ⊥)

abbrev InputFailed : Source → Type 0
InputFailed input = Rose input.before input.now × (input.steady → ⊥)

-- a check file that was read whole stops nothing at a fault
whole_checks_calm : (start : Start) (bytes : List ℕ) (program : Result AcceptedFile Stop) → IsProgram start (Whole bytes) program
    → IsFault program → ⊥
whole_checks_calm start bytes program leads =
    leads_calm (check_file_in start (canon start.asked.strict bytes)) IsCompiledTo program
    (λ file compiled. compiled_calm file program compiled) leads

-- where a plan stops at a fault, the files counted it
fault_of_checks : (files : Files) (limit : ℕ) (asked : Asked) (file : Reading) (program : Result AcceptedFile Stop)
    → FileRead files limit asked.name file → IsProgram (start_with asked) file program → IsFault program → FilesFailed files
fault_of_checks files limit asked (Whole bytes) program read leads is =
    absurd (whole_checks_calm (start_with asked) bytes program leads is)
fault_of_checks files limit asked Missing program read same is = absurd (subst IsFault same is)
fault_of_checks files limit asked TooLarge program read same is = absurd (subst IsFault same is)
fault_of_checks files limit asked Failed program read same is = read

fault_of_old : (files : Files) (limit : ℕ) (making : Making) (old : Option (List ℕ)) (file : Reading)
    → FileAsked files limit old file → IsFault (old_read old file >>= (λ old. Ok (Make making old))) → FilesFailed files
fault_of_old files limit making None file read is = absurd is
fault_of_old files limit making (Some name) (Whole bytes) read is = absurd is
fault_of_old files limit making (Some name) Missing read is = absurd is
fault_of_old files limit making (Some name) TooLarge read is = absurd is
fault_of_old files limit making (Some name) Failed read is = read

fault_of_files : (files : Files) (limit : ℕ) (job : Result Job WordsFault) (plan : Result InputPlan Stop)
    → PlanFrom files limit job plan → IsFault plan → FilesFailed files
fault_of_files files limit job (Ok plan) from is = absurd is
fault_of_files files limit (Err fault) (Err stop) from is = absurd (subst IsFault from.1 is)
fault_of_files files limit (Ok (jobs.Check asked)) (Err stop) (file, read, leads) is =
    fault_of_checks files limit asked file (Err stop) read leads is
fault_of_files files limit (Ok (jobs.Generate count)) (Err stop) (file, read, leads) is =
    absurd (whole_checks_calm (start_made count) (checks_text count) (Err stop) leads is)
fault_of_files files limit (Ok (jobs.Make making)) (Err stop) (file, read, same) is =
    fault_of_old files limit making making.old file read (subst IsFault same is)

whole_is_none : (program : AcceptedFile) (bytes : List ℕ) → IsFault (verdict_read program (Whole bytes)) → ⊥
whole_is_none program bytes =
    no_fault_then (filled program.file.asked.allow_empty (input_name program.file.asked.input) bytes)
    (λ input. Ok (verdict program (length input) (canon program.file.asked.strict input))) (λ input is. is)

made_is_none : (making : Making) (old bytes : List ℕ) → IsFault (made_read making old (Whole bytes)) → ⊥
made_is_none making old bytes =
    no_fault_then (filled making.allow_empty (input_name making.input) bytes) (made_behind making old)
    (λ output. no_fault_step (checks_made (refreshed old output making.lead)))

-- where what is told of an input is a fault, the files or the input counted it
failed_input : (files : Files) (input : Source) (limit : ℕ) (told : Reading → Result Report Stop) (place : Input) (read : Reading)
    → ((bytes : List ℕ) → IsFault (told (Whole bytes)) → ⊥) → (IsFault (told Missing) → ⊥) → (IsFault (told TooLarge) → ⊥)
    → InputAsked files input limit (Some place) read → IsFault (told read) → FilesFailed files ⊎ InputFailed input
failed_input files input limit told place (Whole bytes) whole missing large is fault = absurd (whole bytes fault)
failed_input files input limit told place Missing whole missing large is fault = absurd (missing fault)
failed_input files input limit told place TooLarge whole missing large is fault = absurd (large fault)
failed_input files input limit told Standard Failed whole missing large is fault = inr is.1
failed_input files input limit told (Named name) Failed whole missing large is fault = inl is.1

failed_checked : (files : Files) (input : Source) (limit : ℕ) (program : AcceptedFile) (made : Option ℕ) (place : Input) (read : Reading)
    → InputAsked files input limit (unless_made made place) read → IsFault (verdict_read program (input_given made read))
    → FilesFailed files ⊎ InputFailed input
failed_checked files input limit program (Some count) place read is fault =
    absurd (whole_is_none program (input_text count) fault)
failed_checked files input limit program None place read is fault =
    failed_input files input limit (verdict_read program) place read (whole_is_none program) (λ is. is) (λ is. is) is fault

failed_plan : (files : Files) (input : Source) (limit : ℕ) (plan : InputPlan) (read : Reading)
    → InputAsked files input limit (input_asked plan) read → IsFault (found_in plan read) → FilesFailed files ⊎ InputFailed input
failed_plan files input limit (Check program) read is fault =
    failed_checked files input limit program program.file.made program.file.asked.input read is fault
failed_plan files input limit (Make making old) read is fault =
    failed_input files input limit (made_read making old) making.input read (made_is_none making old) (λ is. is) (λ is. is) is fault

-- where the outcome is a fault, the files or the input counted it, or the plan was one
fault_of_input : (files : Files) (input : Source) (limit : ℕ) (plan : Result InputPlan Stop) (outcome : Result Report Stop)
    → OutcomeFrom files input limit plan outcome → IsFault outcome
    → IsFault plan ⊎ FilesFailed files ⊎ InputFailed input
fault_of_input files input limit (Err (Refused refusal)) outcome from is = absurd (subst IsFault from.2 is)
fault_of_input files input limit (Err (NotReadable name)) outcome from is = inl tt
fault_of_input files input limit (Ok plan) outcome (read, is, same) fault =
    inr (failed_plan files input limit plan read is (subst IsFault same fault))

-- an answer of status 3 is to a fault
counts_are_none : (one : Bool) → ◌≡◌ {A = ℕ} (if one then 0 else 1) 3 → ⊥
counts_are_none true is = cc
counts_are_none false is = cc

answers_fault : (outcome : Result Report Stop) → (answer_to outcome).status ≡ 3 → IsFault outcome
answers_fault (Ok (Found [] None)) is = cc
answers_fault (Ok (Found [] (Some rows))) is = cc
answers_fault (Ok (Found (finding ∷ later) None)) is = cc
answers_fault (Ok (Found (finding ∷ later) (Some rows))) is = cc
answers_fault (Ok (Checks text)) is = cc
answers_fault (Ok (Made made)) is = absurd (counts_are_none (made.faults == 0) is)
answers_fault (Err (Refused refusal)) is = cc
answers_fault (Err (NotReadable name)) is = tt

module _ (first_files last_files : Files) (limit : ℕ) (job : Result Job WordsFault) (plan : Result InputPlan Stop) (input : Source)
    (most : ℕ) (outcome : Result Report Stop) (joint : first_files.now ≡ last_files.before)
    (from : PlanFrom first_files limit job plan) (read : OutcomeFrom last_files input most plan outcome) where
  -- a fault of either reading is counted in the end
  in_first : Rose first_files.before first_files.now → Rose first_files.before last_files.now
  in_first rose =
      rose_then first_files.before last_files.before last_files.now (subst (λ n. Rose first_files.before n) joint rose)
      (outcome_later last_files input most plan outcome read)

  in_last : Rose last_files.before last_files.now → Rose first_files.before last_files.now
  in_last rose =
      then_rose first_files.before last_files.before last_files.now
      (subst (λ n. IsLater first_files.before n) joint (plan_later first_files limit job plan from)) rose

  by_reading : IsFault plan ⊎ FilesFailed last_files ⊎ InputFailed input
      → Rose first_files.before last_files.now ⊎ Rose input.before input.now
  by_reading (inl fault) = inl (in_first (fault_of_files first_files limit job plan from fault).0)
  by_reading (inr (inl failed)) = inl (in_last failed.0)
  by_reading (inr (inr failed)) = inr failed.0

  -- and not where all are steady
  none_by_reading : first_files.steady → last_files.steady → input.steady
      → IsFault plan ⊎ FilesFailed last_files ⊎ InputFailed input → ⊥
  none_by_reading first last steady (inl fault) = (fault_of_files first_files limit job plan from fault).1 first
  none_by_reading first last steady (inr (inl failed)) = failed.1 last
  none_by_reading first last steady (inr (inr failed)) = failed.1 steady

  -- an answer of status 3 comes of a fault that was counted
  pub fault_of_answer : (answer : Answer) → answer ≡ answer_to outcome → answer.status ≡ 3
      → Rose first_files.before last_files.now ⊎ Rose input.before input.now
  fault_of_answer answer same is =
      by_reading (fault_of_input last_files input most plan outcome read
      (answers_fault outcome (sym (ap (λ a. a.status) same) ∙ is)))

  pub calm_of_answer : first_files.steady → last_files.steady → input.steady → (answer : Answer)
      → answer ≡ answer_to outcome → answer.status ≡ 3 → ⊥
  calm_of_answer first last steady answer same is =
      none_by_reading first last steady (fault_of_input last_files input most plan outcome read
      (answers_fault outcome (sym (ap (λ a. a.status) same) ∙ is)))

wider : {A B C : Type 0} → A ⊎ B → A ⊎ B ⊎ C
wider (inl a) = inl a
wider (inr b) = inr (inl b)

-- and so does status 3, or it comes of a fault of a stream
pub fault_of_run : {A B : Type 0} (message : List ℕ) (answer : Answer) (status : ℕ) (out err : Stream)
    → (answer.status ≡ 3 → A ⊎ B) → Written message answer status out err → status ≡ 3
    → A ⊎ B ⊎ Rose out.before out.now ⊎ Rose err.before err.now
fault_of_run message answer status out err counted (inl (taken, inl told)) is = wider (counted (sym told.0 ∙ is))
fault_of_run message answer status out err counted (inl (taken, inr stopped)) is = inr (inr (inr stopped.1.1))
fault_of_run message answer status out err counted (inr stopped) is = inr (inr (inl stopped.1.1))

-- where the answer isn't of status 3, that of a run comes of a stream
streams_alone : {A B : Type 0} → ⊥ ⊎ ⊥ ⊎ A ⊎ B → A ⊎ B
streams_alone (inl none) = absurd none
streams_alone (inr (inl none)) = absurd none
streams_alone (inr (inr either)) = either

pub fault_of_streams : (message : List ℕ) (answer : Answer) (status : ℕ) (out err : Stream) → (answer.status ≡ 3 → ⊥)
    → Written message answer status out err → status ≡ 3 → Rose out.before out.now ⊎ Rose err.before err.now
fault_of_streams message answer status out err none written is =
    streams_alone (fault_of_run message answer status out err (λ three. inl (none three)) written is)
