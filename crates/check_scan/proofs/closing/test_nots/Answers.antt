use Rattle.check_scan.proofs.ClosingLemmas.{on_ok, told_all}
use Rattle.check_scan.proofs.closing.test_nots.Goals as goal

pub returns-clause-told : goal.returns-clause-told
returns-clause-told g c =
    let a = c.args in
    on_ok c.test_region-2.result
    (told_all a.slice.now a.progress.now.place a.progress.now.vars a.subject.now.always.now a.pending.now a.progress.now.faults _ _
    c.in_ok-test_region.ensures)
    c.test_region-2.ensures
