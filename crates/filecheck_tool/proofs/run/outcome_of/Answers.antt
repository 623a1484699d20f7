use Rattle.std.proofs.Common.{◌^◌, ◌∙◌}
use Rattle.opt_words.specs.Step.{texts}
use Rattle.tt_run.specs.Run.{files_of}
use Rattle.filecheck_words.specs.Job.{asked_by}
use Rattle.filecheck_tool.proofs.RunLemmas.{refused_plan}
use Rattle.filecheck_tool.proofs.run.outcome_of.Goals as goal

pub returns-clause-value : goal.returns-clause-value
returns-clause-value g c = (
  c.plan_from.new.from,
  c.in_ok-plan.plan,
  c.in_ok-plan.ensures.value,
  c.plan_from.ensures.files_stay,
  c.in_ok-outcome.ensures.value,
)

pub returns-clause-unread : goal.returns-clause-unread
returns-clause-unread g c refused =
    let files = files_of g.F.Files c.args.from.now c.plan_from.new.from in
    let none = c.outcome_from.ensures.unread
    (refused_plan files (2 ^ 24) (asked_by (texts c.args.words.now)) c.in_ok-plan.plan c.in_ok-plan.ensures.value refused) in
    (none.0 ∙ c.plan_from.ensures.unread refused, none.1)
