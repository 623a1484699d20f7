use Rattle.std.proofs.Common.{◌∙◌, [], ◌∷◌, length-append, sym, arith}
use Rattle.test_plan.proofs.RunLemmas.{all_read, more_read, refused_here}
use Rattle.test_plan.proofs.runs.read_runs.Goals as goal

pub returns-in-Refused-clause-exact : goal.returns-in-Refused-clause-exact
returns-in-Refused-clause-exact c =
    refused_here c.args.test.now c.args.runs.now c.loop-run.run-index c.run-item.result c.loop-run.heads c.loop-run.lines
    c.in-Refused.cause c.loop-run-test.true c.run-item.is (sym c.in-Refused.is ∙ c.in_ok-head.ensures)
    c.loop-run.invariant.rest

pub loop-run-preserved : goal.loop-run-preserved
loop-run-preserved c = record {
  rest = rw c.in_ok-push-in-Line.ensures.ok (rw c.in_ok-push-in-Line-2.ensures.ok (
      more_read c.args.test.now c.args.runs.now c.loop-run.run-index c.run-item.result c.loop-run.heads c.loop-run.lines
      c.in-Line.head c.in-Line.line c.loop-run-test.true c.run-item.is (sym c.in-Line.is ∙ c.in_ok-head.ensures)
      c.loop-run.invariant.rest));
  few = rw c.in_ok-push-in-Line-2.ensures.ok (let sum = length-append c.loop-run.lines (c.in-Line.line ∷ []) in
      omega (arith, sum, c.loop-run.invariant.few));
}

pub returns-clause-exact : goal.returns-clause-exact
returns-clause-exact c =
    all_read c.args.test.now c.args.runs.now c.loop-run.run-index c.loop-run.heads c.loop-run.lines
    (omega (arith, c.loop-run-test.false)) c.loop-run.invariant.rest
