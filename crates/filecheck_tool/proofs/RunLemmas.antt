-- A run comes to the answer of its words and of what it read.
use Rattle.std.proofs.Common.{◌≡◌, ℕ, ◌^◌, Result, Ok, Err, IsErr, ◌∙◌, ap, refl, subst, sym}
use Rattle.tt_outside.specs.declared.files.Files.{Ghosts as OfFiles}
use Rattle.tt_run.specs.Run.{Files, Source, files_of}
use Rattle.tt_run.specs.declared.answer.Answer.{Answer}
use Rattle.tt_run.specs.declared.reading.Reading.{Reading}
use Rattle.tt_run.specs.declared.reading.Reading.TheVariants.{Missing}
use Rattle.filecheck_words.specs.declared.fault.WordsFault.{WordsFault}
use Rattle.filecheck_words.specs.declared.job.Job.{Job}
use Rattle.filecheck_messages.specs.Answer.{answer_to}
use Rattle.filecheck_messages.specs.declared.refusal.Stop.{Stop}
use Rattle.filecheck_messages.specs.declared.report.Report.{Report}
use Rattle.filecheck_tool.specs.Answer.{IsOutcome, IsAnswer, IsPlan, found_by}
use Rattle.filecheck_tool.specs.Run.{AnswerOf, ChecksRead, InputRead, OutcomeFrom, OutcomeOf, PlanFrom}
use Rattle.filecheck_tool.specs.declared.plan.InputPlan.{InputPlan}

-- the check file that was read, or any where none was
checks_of : (files : Files) (limit : ℕ) (job : Result Job WordsFault) (plan : Result InputPlan Stop)
    → PlanFrom files limit job plan
    → (file : Reading) × ChecksRead files limit job file × IsPlan job file plan
checks_of files limit (Ok job) plan from = from
checks_of files limit (Err fault) plan from = (Missing, from.0, from.1)

-- words that are refused come to a refusal
pub refused_plan : (files : Files) (limit : ℕ) (job : Result Job WordsFault) (plan : Result InputPlan Stop)
    → PlanFrom files limit job plan → IsErr job → IsErr plan
refused_plan files limit (Ok job) plan from is = cc
refused_plan files limit (Err fault) plan from is = subst IsErr (sym from.1) refl

-- and the input
input_of : (files : Files) (input : Source) (limit : ℕ) (plan : Result InputPlan Stop) (outcome : Result Report Stop)
    → OutcomeFrom files input limit plan outcome
    → (read : Reading) × InputRead files input limit plan read × (outcome ≡ found_by plan read)
input_of files input limit (Ok plan) outcome from = from
input_of files input limit (Err stop) outcome from = (Missing, (from.0, from.1), from.2)

module _ {F : Type 0} (of : OfFiles F) (old new : F) (input : Source) (job : Result Job WordsFault) (outcome : Result Report Stop) where
  -- what is told by way of a middle state of the files is told of what was read
  pub answer_of_run : (answer : Answer) → OutcomeOf of old new input job outcome → answer ≡ answer_to outcome
      → AnswerOf of old new input job answer
  answer_of_run answer (middle, plan, from, kept, told) same =
      let checks = checks_of (files_of of old middle) (2 ^ 24) job plan from in
      let inputs = input_of (files_of of middle new) input (2 ^ 26) plan outcome told in
      (plan, checks.0, inputs.0, (middle, checks.1, kept, inputs.1), (checks.2, same ∙ ap answer_to inputs.2))

-- an answer to what words and readings come to
pub answer_of_outcome : (job : Result Job WordsFault) (file read : Reading) (outcome : Result Report Stop) (answer : Answer)
    → IsOutcome job file read outcome → answer ≡ answer_to outcome → IsAnswer job file read answer
answer_of_outcome job file read outcome answer (plan, is, told) same = (plan, (is, same ∙ ap answer_to told))
