use Rattle.std.proofs.Common.{◌≤◌, arith, length, sym, subst, ◌∙◌}
use Rattle.std.proofs.lemmas.List.{at_drop_all}
use Rattle.json_report.specs.Changes.{Agrees, with_lines, with_result}
use Rattle.json_report.proofs.BothLemmas.{agrees_new, one_line_more}
use Rattle.json_report.proofs.results.ByPath.add_new.Goals as goal

pub loop-line-preserved : goal.loop-line-preserved
loop-line-preserved c old new both agrees =
    let (now, all, are, rest, others) = c.loop-line.invariant old new both agrees in
    let line = c.line-item.result in
    let lines = c.args.lines.now in (
      with_result now line.path line.result,
      with_result all line.path line.result,
      subst (λ one. Agrees one old (with_result now line.path line.result) (with_result all line.path line.result))
          (sym c.in_ok-put_new.ensures) (agrees_new c.loop-line.self old now all line are),
      one_line_more now lines c.loop-line.line-index line c.loop-line-test.true c.line-item.is ∙ rest,
      one_line_more all lines c.loop-line.line-index line c.loop-line-test.true c.line-item.is ∙ others,
    )

pub returns : goal.returns
returns c old new both agrees =
    let (now, all, are, rest, others) = c.loop-line.invariant old new both agrees in
    let lines = c.args.lines.now in
    let past : length lines ≤ c.loop-line.line-index = omega (arith, c.loop-line-test.false) in
    subst (λ results. Agrees c.loop-line.self old results (with_lines both lines))
    (sym (at_drop_all (with_lines now) lines c.loop-line.line-index past) ∙ rest)
    (subst (λ paths. Agrees c.loop-line.self old now paths)
    (sym (at_drop_all (with_lines all) lines c.loop-line.line-index past) ∙ others) are)
