use Rattle.check_scan.proofs.ClosingLemmas.{ends_last, ends_there}
use Rattle.check_scan.proofs.closing.end_block.Goals as goal

pub returns-in_ok-test_nots : goal.returns-in_ok-test_nots
returns-in_ok-test_nots g c =
    let a = c.args in
    ends_last a.subject.now a.pending.now a.last a.progress.now _ c.if-last.true c.in_ok-test_nots.ensures.told c.test_nots.ensures.vars

pub returns-else-last : goal.returns-else-last
returns-else-last g c = ends_there c.args.subject.now c.args.pending.now c.args.last c.args.progress.now c.if-last.false
