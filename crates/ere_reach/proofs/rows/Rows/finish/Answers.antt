use Rattle.std.proofs.Common.{◌<◌, length, refl, ap, ◌∙◌, arith, set, length-set}
use Rattle.std.proofs.lemmas.List.{get_or-set_other}
use Rattle.std.proofs.lemmas.Option.{slice_get_read}
use Rattle.ere_reach.proofs.RowsLemmas.{All, all_done, all_rows, finish_row, then_same, unchanged}
use Rattle.ere_reach.specs.Rows.{HasAt, HasState, IsDone}
use Rattle.ere_reach.proofs.rows.Rows.finish.Goals as goal

pub loop-index-preserved : goal.loop-index-preserved
loop-index-preserved c =
    let old = c.args.self.now.rows.items in
    let now = c.loop-index.self.rows.items in
    let i = c.loop-index.index in
    let row = c.index_mut.result.now in
    let new = c.finish.new.self in
    let before = c.loop-index.invariant in
    let low : i < length old = omega (arith, c.loop-index-test.true, c.len-index-end.ensures) in
    let fits : i < length now = omega (arith, low, before.long) in
    let held = ap (λ v. v.items) c.finish.ensures.held in
    let places = ap (λ v. v.items) c.finish.ensures.places in
    record {
      long = length-set now i new ∙ before.long;
      rest = λ k d up. get_or-set_other now i k new d (omega (arith, up)) ∙ before.rest k d (omega (arith, up));
      same = then_same (HasAt All (set now i new)) (HasState c.loop-index.self) (HasState c.args.self.now)
          (unchanged All now i row new (slice_get_read now (length now) i row refl fits c.index_mut.ensures.value) held
          places) before.same;
      done = finish_row old now i row new (IsDone c.args.self.now) low fits c.index_mut.ensures.value
          (before.rest i row (omega arith)) held places c.finish.ensures.done before.done;
    }

pub returns-clause-done : goal.returns-clause-done
returns-clause-done c =
    let old = c.args.self.now.rows.items in
    all_done old (IsDone c.loop-index.self)
    (all_rows All old c.loop-index.index (IsDone c.args.self.now) (IsDone c.loop-index.self)
    (omega (arith, c.loop-index-test.false, c.len-index-end.ensures)) c.loop-index.invariant.done)
