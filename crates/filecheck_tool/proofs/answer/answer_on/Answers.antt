use Rattle.opt_words.specs.Step.{texts}
use Rattle.filecheck_words.specs.Job.{asked_by}
use Rattle.filecheck_tool.proofs.RunLemmas.{answer_of_outcome}
use Rattle.filecheck_tool.proofs.answer.answer_on.Goals as goal

pub returns-clause-value : goal.returns-clause-value
returns-clause-value c =
    answer_of_outcome (asked_by (texts c.args.words.now)) c.args.file c.args.read c.in_ok-outcome.outcome c.in_ok-answer.answer
    c.in_ok-outcome.ensures c.in_ok-answer.ensures.value
