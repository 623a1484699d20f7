use Rattle.opt_words.specs.Step.{texts}
use Rattle.report_changes.proofs.RunLemmas.{fault_of_outcome}
use Rattle.report_changes.proofs.run.answer_from.Goals as goal

pub returns-clause-fault : goal.returns-clause-fault
returns-clause-fault g c is =
    (fault_of_outcome g.F.Files c.args.files.now c.outcome_of.new.files (texts c.args.words.now) c.in_ok-outcome.outcome
    c.in_ok-answer.answer c.in_ok-outcome.ensures.value c.in_ok-answer.ensures.value is).0

pub returns-clause-calm : goal.returns-clause-calm
returns-clause-calm g c steady is =
    (fault_of_outcome g.F.Files c.args.files.now c.outcome_of.new.files (texts c.args.words.now) c.in_ok-outcome.outcome
    c.in_ok-answer.answer c.in_ok-outcome.ensures.value c.in_ok-answer.ensures.value is).1 steady
