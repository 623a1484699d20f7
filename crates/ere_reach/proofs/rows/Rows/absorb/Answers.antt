use Rattle.std.proofs.Common.{map-id, rules}
use Rattle.std.proofs.lemmas.Iterator.Adapters.{YieldsList-from_vec}
use Rattle.std.proofs.lemmas.Iterator.Consumers.{YieldsList-end}
use Rattle.ere_reach.proofs.RowsLemmas.{All, push_row, then_same}
use Rattle.ere_reach.specs.Rows.{HasState, IsDone}
use Rattle.ere_reach.proofs.rows.Rows.absorb.Goals as goal

pub loop-row-preserved-then-is_some : goal.loop-row-preserved-then-is_some
loop-row-preserved-then-is_some c = record {
  join = push_row All c.loop-row.yielded c.in-Some.row (HasState c.args.self.now) (HasState c.loop-row.self)
      (HasState c.put.new.self) c.loop-row.invariant.join
      (rw (c.as_slice-then-is_some.ensures.value, c.as_slice-then-is_some-2.ensures.value) at c.in_ok-put.ensures.put);
  done = then_same (IsDone c.put.new.self) (IsDone c.loop-row.self) (IsDone c.args.self.now) c.in_ok-put.ensures.done
      c.loop-row.invariant.done;
}

pub loop-row-preserved : goal.loop-row-preserved
loop-row-preserved c = record {
  join = push_row All c.loop-row.yielded c.in-Some.row (HasState c.args.self.now) (HasState c.loop-row.self)
      (HasState c.push.new.self) c.loop-row.invariant.join c.in_ok-push.ensures.put;
  done = then_same (IsDone c.push.new.self) (IsDone c.loop-row.self) (IsDone c.args.self.now) c.in_ok-push.ensures.done
      c.loop-row.invariant.done;
}

pub returns-clause-join : goal.returns-clause-join
returns-clause-join c =
    let rows = c.args.other.rows.items in
    let end = YieldsList-end (YieldsList-from_vec {s = c.into_iter-row-iterator.result} rows (search rules) (search rules))
    c.loop-row.yielded c.loop-row.row-iterator c.loop-row.yielded_by c.next.result c.next.new.self c.in-None.is
    c.next.ensures.steps in
    rw (← end.0, map-id) c.loop-row.invariant.join
