-- The desk's stream is still the one that was lent to it, so what the desk wrote is in that one.
use Rattle.std.proofs.Common.{[], length, refl, subst, sym}
use Rattle.tt_run.specs.Run.{stream_of}
use Rattle.lit_desk.specs.Desk.{desk}
use Rattle.run_report.specs.Run.{PartsWrite, StopsTests}
use Rattle.run_report.proofs.StopLemmas.{all_put, err_weaker, ok_weaker, puts_same, stop_same, stop_tests}
use Rattle.run_report.proofs.parts.report_each.Goals as goal

pub returns-clause-wrote : goal.returns-clause-wrote
returns-clause-wrote g c =
    let now = desk g.O.Sink in
    let new = c.run_all.new.desk in
    let count = length c.args.tests.now in
    ok_weaker c.run_all.result
    (λ trials put. subst
    (λ out. PartsWrite c.args.asked.now.detail count (stream_of g.O.Sink c.args.out.now out)
    (g.O.Sink.room out) trials)
    (sym (c.out-1.given.1 (sym (puts_same now (λ d. d.out.ghost_name) _ new 0 trials put))))
    (all_put now (λ d. d.out.ghost_name) _ new c.args.asked.now.detail count trials refl refl c.len.ensures put))
    c.run_all.ensures.put

pub returns-clause-stopped : goal.returns-clause-stopped
returns-clause-stopped g c =
    let now = desk g.O.Sink in
    let new = c.run_all.new.desk in
    let gave = g.C.Crew.gave c.args.from.now in
    let tests = c.args.tests.now in
    err_weaker c.run_all.result
    (λ stop stopped. subst
    (λ out. StopsTests [] c.args.asked.now.detail tests gave
    (stream_of g.O.Sink c.args.out.now out) stop)
    (sym (c.out-1.given.1 (sym (stop_same now (λ d. d.out.ghost_name) gave tests _ new stop stopped))))
    (stop_tests now (λ d. d.out.ghost_name) gave tests _ new stop c.args.asked.now.detail refl refl c.len.ensures stopped))
    c.run_all.ensures.stopped
