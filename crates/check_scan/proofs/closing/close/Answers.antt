use Rattle.std.proofs.Common.{◌++◌, sym, ◌∙◌, refl}
use Rattle.check_scan.proofs.ClosingLemmas.{close_failed, close_on, close_over}
use Rattle.check_scan.proofs.closing.close.Goals as goal

pub returns-in-Err-clause-turns : goal.returns-in-Err-clause-turns
returns-in-Err-clause-turns g c =
    let a = c.args in
    close_failed a.subject.now.text.now (a.subject.now.always.now ++ a.pending.now) a.outcome c.in-Err.fault a.progress.now
    (record a.progress.now { faults = c.push.new.self }) c.in-Err.is c.in_ok-push-in-Err.ensures.ok refl

pub returns-then-len-before-clause-turns : goal.returns-then-len-before-clause-turns
returns-then-len-before-clause-turns g c =
    let a = c.args in
    close_on a.subject.now.text.now (a.subject.now.always.now ++ a.pending.now) c.in-Ok.m a.progress.now c.test_nots.new.progress
    c.test_nots.ensures.vars c.split_at.result.0.now a.outcome c.split_at.ensures.front c.in-Ok.is c.in_ok-test_nots.ensures.told
    (sym c.len.ensures ∙ c.if-len-before.true ∙ c.len-before.ensures)

pub returns-else-len-before-clause-turns : goal.returns-else-len-before-clause-turns
returns-else-len-before-clause-turns g c =
    let a = c.args in
    close_over a.subject.now.text.now (a.subject.now.always.now ++ a.pending.now) c.in-Ok.m a.progress.now c.test_nots.new.progress
    c.test_nots.ensures.vars c.split_at.result.0.now a.outcome c.split_at.ensures.front c.in-Ok.is c.in_ok-test_nots.ensures.told
    (λ same. c.if-len-before.false (c.len.ensures ∙ same ∙ sym c.len-before.ensures))
