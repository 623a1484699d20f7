use Rattle.std.proofs.Common.{◌+◌}
use Rattle.ere_reach.proofs.KeepsLemmas.{kept_first, kept_last, kept_more}
use Rattle.ere_reach.proofs.TakenLemmas.{Taken, taken_row}
use Rattle.ere_reach.proofs.reach.with_kept.Goals as goal

pub loop-row-init : goal.loop-row-init
loop-row-init c = kept_first c.args.live.now c.deref-row-items.result.now c.new-found.result c.new-found.ensures.none

pub loop-row-preserved : goal.loop-row-preserved
loop-row-preserved c =
    let rows = c.deref-row-items.result.now in
    let row = c.row-item.result in
    let k = c.loop-row.row-index in
    kept_more c.args.live.now row.held.items c.in_ok-held.held.items row.places.items (Taken rows k)
    (Taken rows (k + 1)) c.loop-row.found c.put.new.self (rw c.as_slice.ensures.value at c.in_ok-held.ensures)
    (taken_row rows k row c.loop-row-test.true c.row-item.is)
    (rw (c.as_slice-in-loop-row.ensures.value, c.as_slice-in-loop-row-2.ensures.value) at c.in_ok-put.ensures.put)
    c.loop-row.invariant

pub returns : goal.returns
returns c = kept_last c.args.site c.args.live.now c.args.rows.now c.loop-row.found c.deref-row-items.result.now
    c.loop-row.row-index c.deref-row-items.ensures.value c.loop-row-test.false c.loop-row.invariant
