use Rattle.std.proofs.Common.{ℕ, ◌+◌, List, subst, arith}
use Rattle.std.specs.List.{Contains}
use Rattle.ere_places.proofs.ReachLemmas.{all_each}
use Rattle.ere_places.specs.Places.{IsInside}
use Rattle.ere_tree.specs.View.{view}
use Rattle.ere_reach.specs.Leads.{Does}
use Rattle.ere_reach.specs.Live.{reads}
use Rattle.ere_reach.proofs.StepLemmas.{free_more, gone_first, gone_last, row_inside}
use Rattle.ere_reach.proofs.TakenLemmas.{Taken, taken_row}
use Rattle.ere_reach.proofs.reach.reach_freely.Goals as goal

pub loop-row-init : goal.loop-row-init
loop-row-init c =
    let t = view c.args.ere.now in
    record {
      found = gone_first c.args.site (Does c.args.site.text.now t) (reads t) c.args.live.now c.deref-row-items.result.now
          c.new-found.result c.new-found.ensures.none;
      memo = c.requires.memo;
    }

pub ends-requires-clause-inside : goal.ends-requires-clause-inside
ends-requires-clause-inside c =
    all_each (IsInside c.window.result) c.as_slice.result.now (λ q h.
    let lies = row_inside c.args.site c.args.rows.now c.deref-row-items.result.now c.loop-row.row-index
    c.row-item.result c.deref-row-items.ensures.value c.requires.inside c.loop-row-test.true c.row-item.is q
    (subst (λ (xs : List ℕ). Contains xs q) c.as_slice.ensures.value h) in
    (omega (arith, lies.0, c.window.ensures.low), omega (arith, lies.1, c.window.ensures.high)))

pub loop-row-preserved : goal.loop-row-preserved
loop-row-preserved c =
    let a = c.args in
    let rows = c.deref-row-items.result.now in
    let k = c.loop-row.row-index in
    let row = c.row-item.result in
    record {
      found = free_more a.site (view a.ere.now) a.live.now c.requires.refs c.requires.sets c.window.result c.window.ensures.low
          c.window.ensures.high c.window.ensures.direction row.held.items c.in_ok-held.held.items row.places.items
          c.in_ok-ends.ends (Taken rows k) (Taken rows (k + 1)) c.loop-row.found c.put.new.self
          (λ p at. (row_inside a.site a.rows.now rows k row c.deref-row-items.ensures.value c.requires.inside
          c.loop-row-test.true c.row-item.is p at).0)
          (rw c.as_slice-in-loop-row.ensures.value at c.in_ok-held.ensures)
          (rw c.as_slice.ensures.value at c.in_ok-ends.ensures.ends)
          (taken_row rows k row c.loop-row-test.true c.row-item.is)
          (rw (c.as_slice-in-loop-row-2.ensures.value, c.as_slice-in-loop-row-3.ensures.value) at c.in_ok-put.ensures.put)
          c.loop-row.invariant.found;
      memo = record { told = c.loop-row.invariant.memo.told; asked = c.in_ok-ends.ensures.built };
    }

pub returns-clause-leads : goal.returns-clause-leads
returns-clause-leads c =
    let t = view c.args.ere.now in
    gone_last c.args.site (Does c.args.site.text.now t) (reads t) c.args.live.now c.args.rows.now c.loop-row.found
    c.deref-row-items.result.now c.loop-row.row-index c.deref-row-items.ensures.value c.loop-row-test.false
    c.loop-row.invariant.found
