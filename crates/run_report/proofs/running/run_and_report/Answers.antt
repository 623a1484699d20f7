use Rattle.std.proofs.Common.{◌≡◌, true, List, map, inl, inr, sym, subst}
use Rattle.tt_run.specs.Run.{stream_of}
use Rattle.lit_json.specs.Trials.{test_of}
use Rattle.lit_test.specs.declared.trial.Trial.{Trial}
use Rattle.run_report.specs.Run.{are_told}
use Rattle.run_report.proofs.PieceLemmas.{moment}
use Rattle.run_report.proofs.RunLemmas.{runs_all, stops_run}
use Rattle.run_report.proofs.TextLemmas.{trials_told}
use Rattle.run_report.proofs.running.run_and_report.Goals as goal

pub write_end-requires : goal.write_end-requires
write_end-requires g c =
    let detail = c.args.asked.now.detail in
    subst (λ (ts : List Trial). are_told detail (map test_of ts) ≡ true) (sym c.as_slice.ensures)
    (trials_told (g.C.Crew.gave c.args.from.now) detail c.args.tests.now c.in-Ok.trials c.in-Ok.ensures.trials c.requires.told)

pub returns-in-Ok-clause-ends : goal.returns-in-Ok-clause-ends
returns-in-Ok-clause-ends g c =
    let out = moment g.O.Sink in
    inr (inr (runs_all c.args.asked.now.detail c.args.asked.now.workers c.args.tests.now c.len-count.result
    (g.C.Crew.gave c.args.from.now) (g.C.Crew.hands c.args.from.now) (g.C.Crew.hands c.report_each-ran.new.from) (out c.args.out.now)
    (out c.write_header.new.out) (out c.report_each-ran.new.out) (out c.write_end.new.out)
    (λ e. stream_of g.E.Sink e c.write_end.new.err) c.args.err.now c.write_header.new.err
    c.in-Ok.trials c.as_slice.result.now c.write_end.result c.len-count.ensures c.in-Ok.ensures.trials
    (c.in_default.ensures.taken, c.in_default.ensures.room) c.in-Ok.ensures.wrote c.as_slice.ensures
    c.in_default.ensures.calm c.write_end.ensures c.in-Ok.ensures.hands))

pub returns-in-Err-ran-clause-ends : goal.returns-in-Err-ran-clause-ends
returns-in-Err-ran-clause-ends g c =
    let out = moment g.O.Sink in
    inr (inl (stops_run c.args.asked.now.detail c.args.asked.now.workers c.args.tests.now c.len-count.result
    (g.C.Crew.gave c.args.from.now) (g.C.Crew.hands c.args.from.now) (g.C.Crew.hands c.report_each-ran.new.from) (out c.args.out.now)
    (out c.write_header.new.out) (out c.report_each-ran.new.out)
    (λ e. stream_of g.E.Sink e c.tell_stop.new.err) c.args.err.now c.write_header.new.err
    c.in-Err-ran.stop c.tell_stop.result c.len-count.ensures (c.in_default.ensures.taken, c.in_default.ensures.room)
    c.in-Err-ran.ensures.stopped c.in_default.ensures.calm c.tell_stop.ensures c.in-Err-ran.ensures.hands))
