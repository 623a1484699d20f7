-- Row by row and place by place of it the group is closed, with what is known of the texts that begin where it begins.
-- `ClosedSoFar` says it of the rows and places gone through so far, and `FitsKnown` of what is known.
-- The hard one is `loop-to-preserved`.
use Rattle.std.proofs.Common.{◌+◌, get_or, refl, arith}
use Rattle.ere_reach.proofs.KeepsLemmas.{closed_first, closed_last, closed_more, closed_skip}
use Rattle.ere_reach.proofs.TakenLemmas.{TakenIn, gone_same, taken_in_all, taken_in_more, taken_in_none}
use Rattle.ere_reach.proofs.reach.put_closed.Goals as goal
use Rattle.ere_reach.proofs.reach.put_closed.Goals.{then-from-to+then-to-site+in_ok-put_end, else-from-to, else-from-to-via-then-from-to+else-to-site, else-from-to-via-else-from-to}

pub loop-row-init : goal.loop-row-init
loop-row-init c = record {
  closed = closed_first c.args.closing.site c.args.closing.group.number c.args.closing.from c.args.closing.live.now c.args.found.now
      c.deref-row-items.result.now;
  known = c.new-ending.ensures;
}

pub loop-to-init : goal.loop-to-init
loop-to-init c = record {
  closed = gone_same _ _ _ _ _ _
      (taken_in_none c.deref-row-items.result.now c.loop-row.row-index c.row-item.result.held.items
      c.deref-to-items.result.now) c.loop-row.invariant.closed;
  known = c.loop-row.invariant.known;
}

pub loop-to-preserved : goal.loop-to-preserved
loop-to-preserved c =
    let a = c.args in
    let rows = c.deref-row-items.result.now in
    let k = c.loop-row.row-index in
    let g = c.row-item.result.held.items in
    let places = c.deref-to-items.result.now in
    let j = c.loop-to.to-index in
    let to = get_or places j 0 in
    let S = TakenIn rows k g places j in
    let T = TakenIn rows k g places (j + 1) in
    let grows = taken_in_more rows k g places j to c.loop-to-test.true refl in
    elim c.if-from-to.branch [
      | then-from-to+then-to-site+in_ok-put_end w ↦
          rw (w.found-is, w.ending-is) (record {
            closed = closed_more a.closing.site a.closing.group.number a.closing.from a.closing.live.now a.found.now g w.put_end.new.ending.list.items to S T
                c.loop-to.found w.put_end.new.found w.if-from-to.true w.if-to-site.true
                (rw w.as_slice.ensures.value at w.in_ok-put_end.ensures.closed) grows w.in_ok-put_end.ensures.put
                c.loop-to.invariant.closed;
            known = w.in_ok-put_end.ensures.known;
          })
      | else-from-to w ↦
          rw (w.found-is, w.ending-is) (record {
            closed = closed_skip a.closing.site a.closing.group.number a.closing.from a.closing.live.now a.found.now g to S T c.loop-to.found
                (λ on fits. elim w.else-from-to.branch [
                  | else-from-to-via-then-from-to+else-to-site v ↦ absurd (omega (arith, v.if-to-site.false, fits))
                  | else-from-to-via-else-from-to v ↦ absurd (omega (arith, v.if-from-to.false, on))
                ]) grows c.loop-to.invariant.closed;
            known = c.loop-to.invariant.known;
          })
    ]

pub loop-row-preserved : goal.loop-row-preserved
loop-row-preserved c = record {
  closed = gone_same _ _ _ _ _ _
      (taken_in_all c.deref-row-items.result.now c.loop-row.row-index c.row-item.result c.deref-to-items.result.now
      c.loop-to.to-index c.loop-row-test.true c.row-item.is c.deref-to-items.ensures.value c.loop-to-test.false)
      c.loop-to.invariant.closed;
  known = c.loop-to.invariant.known;
}

pub returns : goal.returns
returns c =
    closed_last c.args.closing.site c.args.closing.group.number c.args.closing.from c.args.closing.live.now c.args.found.now c.args.inside.now
    c.loop-row.found c.deref-row-items.result.now c.loop-row.row-index c.deref-row-items.ensures.value
    c.loop-row-test.false c.loop-row.invariant.closed
