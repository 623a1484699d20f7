use Rattle.tt_outside.specs.Gave.{last_of}
use Rattle.lit_test.proofs.EndingLemmas.{ends_runs}
use Rattle.lit_test.proofs.running.by_runs.Goals as goal

pub returns-clause-ends : goal.returns-clause-ends
returns-clause-ends g c =
    ends_runs (g.R.Runner.gave c.args.hand.now) (last_of 0 (g.R.Runner.begun c.args.hand.now)) c.args.test.now c.args.runs.now
    c.args.entries.now c.run_attempts.new.entries c.args.kept c.in_ok-done.done c.last_cause-last.result
    c.in_ok-ending.ending (rw c.as_slice.ensures at c.in_ok-done.ensures.finishes)
    (rw c.as_slice-2.ensures at c.last_cause-last.ensures) c.in_ok-ending.ensures
