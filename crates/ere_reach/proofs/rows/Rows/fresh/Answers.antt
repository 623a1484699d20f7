use Rattle.std.proofs.Common.{◌<◌, List, length, drop, get_or, ap, ◌∙◌, arith}
use Rattle.ere_reach.proofs.RowsLemmas.{All, Fresh, all_rows, alone, no_rows, none_fresh, put_row}
use Rattle.ere_reach.specs.Rows.{AreSame, HasAt, HasState}
use Rattle.ere_reach.specs.declared.row.Row.{Row}
use Rattle.ere_reach.proofs.rows.Rows.fresh.Goals as goal
use Rattle.ere_reach.proofs.rows.Rows.fresh.Goals.{After-finish}

pub loop-row-preserved : goal.loop-row-preserved
loop-row-preserved c =
    let rows = c.args.self.now.rows.items in
    let row = c.row-item.result in
    let i = c.loop-row.row-index in
    let low : i < length rows = omega (arith, c.loop-row-test.true, ap length c.deref-row-items.ensures.value) in
    put_row Fresh rows i row c.as_slice-in-loop-row.result.now c.split_at.result.1.now (λ h p. ⊥)
    (HasState c.loop-row.fresh) (HasState c.put.new.self) low
    (c.row-item.is ∙ ap (λ (xs : List Row). get_or xs i row) c.deref-row-items.ensures.value)
    c.as_slice-in-loop-row.ensures.value (c.split_at.ensures.back ∙ ap (drop row.done) c.as_slice.ensures.value)
    c.loop-row.invariant c.in_ok-put.ensures.put

all : (c : After-finish) → AreSame (HasState c.loop-row.fresh) (HasAt Fresh c.args.self.now.rows.items)
all c =
    let rows = c.args.self.now.rows.items in
    alone (HasAt Fresh rows) (HasState c.loop-row.fresh)
    (all_rows Fresh rows c.loop-row.row-index (λ h p. ⊥) (HasState c.loop-row.fresh)
    (omega (arith, c.loop-row-test.false, ap length c.deref-row-items.ensures.value)) c.loop-row.invariant)

pub returns-clause-fresh : goal.returns-clause-fresh
returns-clause-fresh c = all c

pub returns-clause-none : goal.returns-clause-none
returns-clause-none c = λ none.
    none_fresh c.args.self.now.rows.items
    (λ h p is. no_rows All c.loop-row.fresh.rows.items none h p ((all c h p).1 is))
