-- Row by row and place by place of it the ends are found and closed one after the other.
-- `ClosedSoFar` says it of the ends of one place, and `free_group_more` takes the place itself to what was gone through.
-- The hard one is `loop-from-preserved`.
use Rattle.std.proofs.Common.{◌+◌, List, [], ◌∷◌, get_or, refl, sym, subst, arith}
use Rattle.ere_places.proofs.ReachLemmas.{all_each}
use Rattle.ere_places.specs.Places.{IsInside}
use Rattle.ere_tree.specs.Tree.{group}
use Rattle.ere_tree.specs.View.{view}
use Rattle.ere_reach.specs.Leads.{Does}
use Rattle.ere_reach.specs.Live.{reads}
use Rattle.ere_reach.specs.Rows.{AreSame}
use Rattle.ere_reach.specs.declared.held.Held.{Held}
use Rattle.ere_reach.proofs.GroupLemmas.{free_group_more}
use Rattle.ere_reach.proofs.KeepsLemmas.{closed_ends, closed_first, closed_more, closed_skip}
use Rattle.ere_reach.proofs.StepLemmas.{gone_first, gone_last, place_inside}
use Rattle.ere_reach.proofs.TakenLemmas.{Taken, TakenIn, gone_same, one_is, taken_in_all, taken_in_more, taken_in_none}
use Rattle.ere_reach.proofs.reach.reach_by_free_group.Goals as goal
use Rattle.ere_reach.proofs.reach.reach_by_free_group.Goals.{then-from-to+then-to-site+in_ok-put_end, else-from-to, else-from-to-via-then-from-to+else-to-site, else-from-to-via-else-from-to}

pub loop-row-init : goal.loop-row-init
loop-row-init c =
    let tree = group c.args.group.number (view c.args.group.inner.now) in
    record {
      found = gone_first c.args.site (Does c.args.site.text.now tree) (reads tree) c.args.live.now
          c.deref-row-items.result.now c.new-found.result c.new-found.ensures.none;
      memo = c.requires.memo;
    }

pub loop-from-init : goal.loop-from-init
loop-from-init c = record {
  found = gone_same _ _ _ _ _ _
      (taken_in_none c.deref-row-items.result.now c.loop-row.row-index c.as_slice-held.result.now
      c.deref-from-items.result.now) c.loop-row.invariant.found;
  memo = c.loop-row.invariant.memo;
}

pub ends-requires-clause-inside : goal.ends-requires-clause-inside
ends-requires-clause-inside c =
    let p = get_or c.deref-from-items.result.now c.loop-from.from-index 0 in
    let lies = place_inside c.args.site c.args.rows.now c.deref-row-items.result.now c.loop-row.row-index
    c.row-item.result c.deref-from-items.result.now c.loop-from.from-index c.deref-row-items.ensures.value
    c.requires.inside c.loop-row-test.true c.row-item.is c.deref-from-items.ensures.value c.loop-from-test.true in
    all_each (IsInside c.window.result) (p ∷ []) (λ q h. subst (IsInside c.window.result) (one_is p q h)
    (omega (arith, lies.0, c.window.ensures.low), omega (arith, lies.1, c.window.ensures.high)))

pub loop-to-init : goal.loop-to-init
loop-to-init c =
    let a = c.args in
    let p = get_or c.deref-from-items.result.now c.loop-from.from-index 0 in
    record {
      closed = gone_same _ _ _ _ _ _ (taken_in_none [] 0 c.as_slice-held.result.now c.deref-to-items.result.now)
          (closed_first a.site a.group.number p a.live.now c.loop-from.found []);
      known = c.new-ending-in-loop-from.ensures.fits;
    }

pub loop-to-preserved : goal.loop-to-preserved
loop-to-preserved c =
    let a = c.args in
    let g = c.as_slice-held.result.now in
    let p = get_or c.deref-from-items.result.now c.loop-from.from-index 0 in
    let ends = c.deref-to-items.result.now in
    let j = c.loop-to.to-index in
    let to = get_or ends j 0 in
    let S = TakenIn [] 0 g ends j in
    let T = TakenIn [] 0 g ends (j + 1) in
    let grows = taken_in_more [] 0 g ends j to c.loop-to-test.true refl in
    elim c.if-from-to.branch [
      | then-from-to+then-to-site+in_ok-put_end w ↦
          rw (w.found-is, w.ending-is) (record {
            closed = closed_more a.site a.group.number p a.live.now c.loop-from.found g w.put_end.new.ending.list.items to S T
                c.loop-to.found w.put_end.new.found w.if-from-to.true w.if-to-site.true
                w.in_ok-put_end.ensures.closed grows w.in_ok-put_end.ensures.put
                c.loop-to.invariant.closed;
            known = w.in_ok-put_end.ensures.known;
          })
      | else-from-to w ↦
          rw (w.found-is, w.ending-is) (record {
            closed = closed_skip a.site a.group.number p a.live.now c.loop-from.found g to S T c.loop-to.found
                (λ on fits. elim w.else-from-to.branch [
                  | else-from-to-via-then-from-to+else-to-site v ↦ absurd (omega (arith, v.if-to-site.false, fits))
                  | else-from-to-via-else-from-to v ↦ absurd (omega (arith, v.if-from-to.false, on))
                ]) grows c.loop-to.invariant.closed;
            known = c.loop-to.invariant.known;
          })
    ]

pub loop-from-preserved : goal.loop-from-preserved
loop-from-preserved c =
    let a = c.args in
    let rows = c.deref-row-items.result.now in
    let k = c.loop-row.row-index in
    let row = c.row-item.result in
    let g = c.as_slice-held.result.now in
    let places = c.deref-from-items.result.now in
    let j = c.loop-from.from-index in
    let p = get_or places j 0 in
    let lies = place_inside a.site a.rows.now rows k row places j c.deref-row-items.ensures.value c.requires.inside
    c.loop-row-test.true c.row-item.is c.deref-from-items.ensures.value c.loop-from-test.true in
    let puts = closed_ends a.site a.group.number p a.live.now c.loop-from.found g c.deref-to-items.result.now
    c.loop-to.to-index c.loop-to.found c.loop-to-test.false c.loop-to.invariant.closed in
    record {
      found = free_group_more a.site a.group.number (view a.group.inner.now) a.live.now c.requires.free.sets.0 c.requires.free.sets.1 c.requires.free.refers
          c.requires.free.sets.2 c.window.result c.window.ensures.low c.window.ensures.high c.window.ensures.direction g p
          c.in_ok-ends.ends c.loop-from.found c.loop-to.found (TakenIn rows k g places j) (TakenIn rows k g places (j + 1))
          lies.0 c.in_ok-ends.ensures.ends (rw c.deref-to-items.ensures.value at puts)
          (taken_in_more rows k g places j p c.loop-from-test.true refl) c.loop-from.invariant.found;
      memo = record { told = c.loop-from.invariant.memo.told; asked = c.in_ok-ends.ensures.built };
    }

pub loop-row-preserved : goal.loop-row-preserved
loop-row-preserved c =
    let rows = c.deref-row-items.result.now in
    let k = c.loop-row.row-index in
    let places = c.deref-from-items.result.now in
    let j = c.loop-from.from-index in
    record {
      found = gone_same _ _ _ _ _ _
          (subst (λ (g : List Held). AreSame (Taken rows (k + 1)) (TakenIn rows k g places j))
          (sym c.as_slice-held.ensures.value)
          (taken_in_all rows k c.row-item.result places j c.loop-row-test.true c.row-item.is
          c.deref-from-items.ensures.value c.loop-from-test.false)) c.loop-from.invariant.found;
      memo = c.loop-from.invariant.memo;
    }

pub returns-clause-leads : goal.returns-clause-leads
returns-clause-leads c =
    let tree = group c.args.group.number (view c.args.group.inner.now) in
    gone_last c.args.site (Does c.args.site.text.now tree) (reads tree) c.args.live.now c.args.rows.now c.loop-row.found
    c.deref-row-items.result.now c.loop-row.row-index c.deref-row-items.ensures.value c.loop-row-test.false
    c.loop-row.invariant.found
