use Rattle.std.proofs.Common.{◌+◌, drop, length, take, sym, ap, ◌∙◌, subst}
use Rattle.std.proofs.lemmas.Bool.{eqb-true}
use Rattle.std.proofs.lemmas.Result.{IfOk-weaker}
use Rattle.ere_reach.proofs.EnteredLemmas.{EntersSoFar, enters_all, enters_first, enters_last, enters_more, enters_skip}
use Rattle.ere_reach.proofs.RowsLemmas.{Fresh, at_more}
use Rattle.ere_reach.specs.Leads.{Enters}
use Rattle.ere_reach.specs.Rows.{AreSame, HasAt, HasState, IsFresh}
use Rattle.ere_reach.specs.declared.rows.Rows.{Rows}
use Rattle.ere_reach.proofs.reach.enter_fresh.Goals.{then-not-is_empty+in_ok-held+in_ok-put, else-not-is_empty}
use Rattle.ere_reach.proofs.reach.enter_fresh.Goals as goal

pub returns-then-read-live-clause-enters : goal.returns-then-read-live-clause-enters
returns-then-read-live-clause-enters c =
    let a = c.args in
    IfOk-weaker c.fresh.result (λ found. AreSame (HasState found) (IsFresh a.all.now))
    (Enters a.read.now (IsFresh a.all.now) a.entered.now a.entered.now)
    (λ found are. enters_all a.read.now a.all.now a.entered.now found are) c.fresh.ensures.fresh

pub loop-row-init : goal.loop-row-init
loop-row-init c = enters_first c.args.read.now c.args.entered.now c.deref-row-items.result.now

pub loop-row-preserved : goal.loop-row-preserved
loop-row-preserved c =
    let read = c.args.read.now in
    let old = c.args.entered.now in
    let rows = c.deref-row-items.result.now in
    let row = c.row-item.result in
    let k = c.loop-row.row-index in
    let all = c.loop-row.entered in
    let T = HasAt Fresh (take (k + 1) rows) in
    let places = c.split_at.result.1.now in
    let is = c.split_at.ensures.back ∙ ap (drop row.done) c.as_slice.ensures.value in
    let grows = at_more Fresh rows k row c.loop-row-test.true c.row-item.is in
    elim c.if-not-is_empty.branch [
      | then-not-is_empty+in_ok-held+in_ok-put w ↦
          let kept = rw w.as_slice-then-not-is_empty.ensures.value at w.in_ok-held.ensures in
          let put = rw (w.as_slice-then-not-is_empty-2.ensures.value, is) at w.in_ok-put.ensures.put in
          subst (λ (new : Rows). EntersSoFar read old T new) (sym w.entered-is)
          (enters_more read old row.held.items w.in_ok-held.held.items (Fresh row) _ T all w.put.new.self kept grows put
          w.in_ok-put.ensures.done c.loop-row.invariant)
      | else-not-is_empty w ↦
          let none = eqb-true (length places) 0 (sym c.is_empty.ensures ∙ w.if-not-is_empty.false) in
          subst (λ (new : Rows). EntersSoFar read old T new) (sym w.entered-is)
          (enters_skip read old row.held.items (Fresh row) _ T all (sym (ap length is) ∙ none) grows c.loop-row.invariant)
    ]

pub returns-clause-enters : goal.returns-clause-enters
returns-clause-enters c = enters_last c.args.read.now c.args.entered.now c.args.all.now c.loop-row.entered
    c.fresh-2.new.self c.in_ok-found.found c.deref-row-items.result.now c.loop-row.row-index
    c.deref-row-items.ensures.value c.loop-row-test.false c.loop-row.invariant c.in_ok-found.ensures.fresh
    c.in_ok-found.ensures.same c.in_ok-found.ensures.done
