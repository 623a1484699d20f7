use Rattle.std.proofs.Common.{◌+◌, List, [], ◌∷◌, get_or, refl, sym, subst}
use Rattle.ere_reach.specs.declared.rows.Rows.{Rows}
use Rattle.ere_reach.specs.declared.held.Held.{Held}
use Rattle.ere_reach.specs.Rows.{IsPut}
use Rattle.ere_reach.proofs.MembersLemmas.{BeyondSoFar, beyond_first, beyond_last, beyond_put, beyond_skip}
use Rattle.ere_reach.proofs.TakenLemmas.{TakenIn, gone_same, taken_in_all, taken_in_more, taken_in_none}
use Rattle.ere_reach.proofs.reach.put_beyond.Goals.{then-end-place+in_ok-put, else-end-place}
use Rattle.ere_reach.proofs.reach.put_beyond.Goals as goal

pub loop-row-init : goal.loop-row-init
loop-row-init c = beyond_first c.args.place c.args.all.now c.deref-row-items.result.now

pub loop-end-init : goal.loop-end-init
loop-end-init c =
    gone_same _ _ _ _ _ _ (taken_in_none c.deref-row-items.result.now c.loop-row.row-index
    c.row-item.result.held.items c.deref-end-items.result.now) c.loop-row.invariant

pub loop-end-preserved : goal.loop-end-preserved
loop-end-preserved c =
    let old = c.args.all.now in
    let rows = c.deref-row-items.result.now in
    let k = c.loop-row.row-index in
    let held = c.row-item.result.held.items in
    let ends = c.deref-end-items.result.now in
    let j = c.loop-end.end-index in
    let end = get_or ends j 0 in
    let T = TakenIn rows k held ends (j + 1) in
    let grows = taken_in_more rows k held ends j end c.loop-end-test.true refl in
    elim c.if-end-place.branch [
      | then-end-place+in_ok-put w ↦
          subst (λ (all : Rows). BeyondSoFar c.args.place old T all) (sym w.all-is)
          (beyond_put _ old _ _ held end c.loop-end.all w.put.new.self w.if-end-place.true grows
          (subst (λ (g : List Held). IsPut c.loop-end.all g (end ∷ []) w.put.new.self) w.as_slice.ensures.value
          w.in_ok-put.ensures.put) c.loop-end.invariant)
      | else-end-place w ↦
          subst (λ (all : Rows). BeyondSoFar c.args.place old T all) (sym w.all-is)
          (beyond_skip _ old _ _ held end c.loop-end.all w.if-end-place.false grows c.loop-end.invariant)
    ]

pub loop-row-preserved : goal.loop-row-preserved
loop-row-preserved c =
    gone_same _ _ _ _ _ _ (taken_in_all c.deref-row-items.result.now c.loop-row.row-index c.row-item.result
    c.deref-end-items.result.now c.loop-end.end-index c.loop-row-test.true c.row-item.is
    c.deref-end-items.ensures.value c.loop-end-test.false) c.loop-end.invariant

pub returns : goal.returns
returns c = beyond_last c.args.place c.args.all.now c.args.rows.now c.loop-row.all c.deref-row-items.result.now
    c.loop-row.row-index c.deref-row-items.ensures.value c.loop-row-test.false c.loop-row.invariant
