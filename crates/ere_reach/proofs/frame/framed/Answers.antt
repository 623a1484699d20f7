use Rattle.std.proofs.Common.{◌+◌}
use Rattle.ere_reach.proofs.FrameLemmas.{framed_first, framed_last, framed_more}
use Rattle.ere_reach.proofs.TakenLemmas.{Taken, taken_row}
use Rattle.ere_reach.proofs.frame.framed.Goals as goal

pub loop-row-init : goal.loop-row-init
loop-row-init c =
    let f = c.args.frame in
    framed_first f.own.now f.others.now f.held.now c.deref-row-items.result.now c.new-found.result
    c.new-found.ensures.none

pub loop-row-preserved : goal.loop-row-preserved
loop-row-preserved c =
    let f = c.args.frame in
    let rows = c.deref-row-items.result.now in
    let row = c.row-item.result in
    let k = c.loop-row.row-index in
    framed_more f.own.now f.others.now f.held.now row.held.items c.put_list.new.list.items row.places.items
    (Taken rows k) (Taken rows (k + 1)) c.loop-row.found c.put.new.self
    (rw c.as_slice.ensures.value at c.in_ok-put_list.ensures)
    (taken_row rows k row c.loop-row-test.true c.row-item.is)
    (rw (c.as_slice-in-loop-row.ensures.value, c.as_slice-in-loop-row-2.ensures.value) at c.in_ok-put.ensures.put)
    c.loop-row.invariant

pub returns : goal.returns
returns c =
    let f = c.args.frame in
    framed_last f.own.now f.others.now f.held.now c.args.inside.now c.loop-row.found c.deref-row-items.result.now
    c.loop-row.row-index c.deref-row-items.ensures.value c.loop-row-test.false c.loop-row.invariant
