use Rattle.std.proofs.Common.{[], arith, sym, subst, ◌∙◌}
use Rattle.std.proofs.lemmas.List.{at_drop_all}
use Rattle.json_report.specs.Changes.{Agrees, with_lines, with_result}
use Rattle.json_report.proofs.BothLemmas.{agrees_old, one_line_more}
use Rattle.json_report.proofs.results.ByPath.add_old.Goals as goal

pub loop-line-preserved : goal.loop-line-preserved
loop-line-preserved c known agrees =
    let (now, are, rest) = c.loop-line.invariant known agrees in
    let line = c.line-item.result in
    let more = with_result now line.path line.result in (
      more,
      subst (λ one. Agrees one more [] more) (sym c.in_ok-put_old.ensures.put) (agrees_old c.loop-line.self now line are),
      one_line_more now c.args.lines.now c.loop-line.line-index line c.loop-line-test.true c.line-item.is ∙ rest,
    )

pub returns : goal.returns
returns c known agrees =
    let (now, are, rest) = c.loop-line.invariant known agrees in
    subst (λ results. Agrees c.loop-line.self results [] results)
    (sym (at_drop_all (with_lines now) c.args.lines.now c.loop-line.line-index (omega (arith, c.loop-line-test.false))) ∙ rest) are
