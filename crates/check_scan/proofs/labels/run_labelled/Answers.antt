use Rattle.std.proofs.Common.{sym, ◌∙◌}
use Rattle.check_scan.proofs.VerdictLemmas.{label_missed, label_part_way, label_turns}
use Rattle.check_scan.proofs.labels.run_labelled.Goals as goal

pub returns-in-Err-clause-turns : goal.returns-in-Err-clause-turns
returns-in-Err-clause-turns g c =
    let a = c.args in
    label_missed a.subject.now a.forget a.checks.now a.label.now a.progress.now c.in-Err.kind c.missing.new.progress c.missing.result
    (sym c.in-Err.is ∙ c.in_ok-m.ensures.value) c.missing.ensures.over c.missing.ensures.told c.missing.ensures.vars

pub returns-clause-turns : goal.returns-clause-turns
returns-clause-turns g c =
    let a = c.args in
    label_turns a.subject.now a.forget a.checks.now a.label.now a.progress.now c.in-Ok.m c.split_at.result.0.now c.run.new.progress
    (sym c.in-Ok.is ∙ c.in_ok-m.ensures.value) c.split_at.ensures.front c.in_ok-run.ensures

pub returns-in_err-run-clause-turns : goal.returns-in_err-run-clause-turns
returns-in_err-run-clause-turns g c =
    let a = c.args in
    label_part_way a.subject.now a.forget a.checks.now a.label.now a.progress.now c.in-Ok.m c.split_at.result.0.now c.run.new.progress
    (sym c.in-Ok.is ∙ c.in_ok-m.ensures.value) c.split_at.ensures.front c.from_residual-in_err-run.result
    c.from_residual-in_err-run.ensures.0 c.in_err-run.ensures
