use Rattle.std.proofs.Common.{◌∙◌, arith}
use Rattle.lit_test.proofs.LineLemmas.{line_on, lines_ended, lines_over}
use Rattle.lit_test.proofs.transcript.add_lines.Goals as goal

pub loop-run-preserved : goal.loop-run-preserved
loop-run-preserved c =
    rw c.in_ok-add_texts_on.ensures (rw c.in_ok-add_run.ensures (
    line_on c.loop-run.text c.loop-run.line c.loop-run.left.now c.in-Some.behind.now c.in-Some.run'.now c.args.began
    c.args.told.now c.in-Some.ensures.cases.0 (omega (arith, c.if-line-began.false)) ∙ c.loop-run.invariant))

pub returns-then-line-began : goal.returns-then-line-began
returns-then-line-began c =
    lines_over c.loop-run.text c.loop-run.line c.loop-run.left.now c.args.began c.args.told.now
    (omega (arith, c.if-line-began.true)) ∙ c.loop-run.invariant

pub returns : goal.returns
returns c =
    lines_ended c.loop-run.text c.loop-run.line c.loop-run.left.now c.args.began c.args.told.now
    c.in_default.ensures.cases ∙ c.loop-run.invariant
