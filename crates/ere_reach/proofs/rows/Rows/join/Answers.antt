use Rattle.std.proofs.Common.{◌<◌, List, length, get_or, ap, ◌∙◌, arith}
use Rattle.ere_reach.proofs.RowsLemmas.{All, all_rows, none_more, put_row, then_same}
use Rattle.ere_reach.specs.Rows.{HasState, IsDone}
use Rattle.ere_reach.specs.declared.row.Row.{Row}
use Rattle.ere_reach.proofs.rows.Rows.join.Goals as goal

pub loop-row-init : goal.loop-row-init
loop-row-init c = record { join = none_more (HasState c.args.self.now) All; done = λ h p. (λ x. x, λ x. x) }

pub loop-row-preserved : goal.loop-row-preserved
loop-row-preserved c =
    let rows = c.args.other.now.rows.items in
    let row = c.row-item.result in
    let i = c.loop-row.row-index in
    let now = c.loop-row.self in
    let new = c.put.new.self in
    let low : i < length rows = omega (arith, c.loop-row-test.true, ap length c.deref-row-items.ensures.value) in
    record {
      join = put_row All rows i row c.as_slice.result.now c.as_slice-in-loop-row.result.now (HasState c.args.self.now)
          (HasState now) (HasState new) low
          (c.row-item.is ∙ ap (λ (xs : List Row). get_or xs i row) c.deref-row-items.ensures.value)
          c.as_slice.ensures.value c.as_slice-in-loop-row.ensures.value c.loop-row.invariant.join
          c.in_ok-put.ensures.put;
      done = then_same (IsDone new) (IsDone now) (IsDone c.args.self.now) c.in_ok-put.ensures.done
          c.loop-row.invariant.done;
    }

pub returns-clause-join : goal.returns-clause-join
returns-clause-join c =
    all_rows All c.args.other.now.rows.items c.loop-row.row-index (HasState c.args.self.now) (HasState c.loop-row.self)
    (omega (arith, c.loop-row-test.false, ap length c.deref-row-items.ensures.value)) c.loop-row.invariant.join
