-- A row that is pushed: the table of steps keeps its invariant, and all that it knew stays known.
-- The lists are the old ones with an end, so each old row, its threads and its cells are where they were.
-- The hard one is `invariant_of-self`, the invariant field by field.
use Rattle.std.proofs.Common.{◌≡◌, ℕ, ◌+◌, ◌<◌, ◌≤◌, ◌==◌, ◌&&◌, not, length, ap, ◌∙◌, arith, length-append}
use Rattle.ere_auto.specs.RowTable.{slot_or_zero}
use Rattle.ere_auto.specs.RowTableView.{row_table_of}
use Rattle.ere_auto.specs.declared.row.Row.{Row}
use Rattle.ere_auto.specs.declared.thread.Thread.{Thread}
use Rattle.ere_auto.proofs.RowTableLemmas.{each_row, each_thread, row_kept, cells_inside, keeps_more, steps_more}
use Rattle.ere_auto.proofs.rows.Rows.push_row.Goals as goal

pub invariant_of-self : goal.invariant_of-self
invariant_of-self c =
    let old = c.args.self.now in
    let rows = old.rows.items in
    let new = c.push_reserved.new.self.items in
    let e = c.push_reserved.ensures.items in
    let pool = old.pool.items in
    let long : length rows ≡ old.rows.len = omega (arith, old.rows.ok.0) in
    let wide : length pool ≡ old.pool.len = omega (arith, old.pool.ok.0) in
    let z : Thread = record { node = 0; origin = 0 } in
    let row : Row = record {
      from = c.len-from.result;
      to = c.len-to.result;
      line = c.args.line;
      searching = c.args.searching;
      over = c.is_over-over.result;
      begun = c.args.note.begun;
      met = c.args.note.met;
    } in
    let kept = λ (r : ℕ) (l : r < length rows). row_kept rows new row e r l in
    record {
      two = omega (arith, c.push_reserved.ensures.len, old.two);
      few = omega (arith, c.push_reserved.ensures.len, c.requires.few);
      rows_room = omega (arith, c.push_reserved.ensures.capacity, old.rows_room);
      square = omega (arith, c.push_reserved.ensures.len, c.add_cells.ensures.len, old.square);
      cells_room = omega (arith, c.add_cells.ensures.capacity, old.cells_room);
      inside = λ k l.
          cells_inside old.cells.items c.add_cells.new.cells.items old.rows.len c.push_reserved.new.self.len
          c.add_cells.ensures.items (omega (arith, c.push_reserved.ensures.len))
          (omega (arith, c.push_reserved.ensures.len))
          (λ i m. old.inside i (omega (arith, m, old.cells.ok.0))) k;
      ordered = λ r l.
          each_row (λ x. x.from ≤ x.to) rows new row e (λ i m. old.ordered i (omega (arith, m, long)))
          (omega (arith, c.len-from.ensures, c.len-to.ensures, c.add_threads.ensures.len)) r
          (omega (arith, l, c.push_reserved.ensures.len, long));
      ranges = λ r l.
          each_row (λ x. x.to ≤ c.add_threads.new.list.len) rows new row e
          (λ i m. omega (arith, old.ranges i (omega (arith, m, long)), c.add_threads.ensures.len))
          (omega (arith, c.len-to.ensures)) r (omega (arith, l, c.push_reserved.ensures.len, long));
      narrow = λ r l.
          each_row (λ x. x.to ≤ x.from + old.nodes) rows new row e (λ i m. old.narrow i (omega (arith, m, long)))
          (omega (arith, c.len-from.ensures, c.len-to.ensures, c.add_threads.ensures.len, c.requires.narrow)) r
          (omega (arith, l, c.push_reserved.ensures.len, long));
      pool_fits = omega (arith, c.add_threads.ensures.len, c.requires.room);
      pool_room = omega (arith, c.add_threads.ensures.capacity, old.pool_room);
      wide = old.wide;
      begun = λ r l.
          each_row (λ x. slot_or_zero x.begun ≤ old.nodes) rows new row e
          (λ i m. old.begun i (omega (arith, m, long))) c.requires.begun r
          (omega (arith, l, c.push_reserved.ensures.len, long));
      met = λ r l.
          each_row (λ x. slot_or_zero x.met ≤ old.nodes) rows new row e (λ i m. old.met i (omega (arith, m, long)))
          c.requires.met r (omega (arith, l, c.push_reserved.ensures.len, long));
      origins = λ x l.
          each_thread (λ t. t.origin ≤ old.nodes) pool c.args.threads.now c.add_threads.new.list.items z
          c.add_threads.ensures.items (λ i m. old.origins i (omega (arith, m, wide))) c.requires.origins x
          (omega (arith, l, c.add_threads.ensures.len, wide));
      within = λ x l.
          each_thread (λ t. t.node < old.nodes) pool c.args.threads.now c.add_threads.new.list.items z
          c.add_threads.ensures.items (λ i m. old.within i (omega (arith, m, wide))) c.requires.within x
          (omega (arith, l, c.add_threads.ensures.len, wide));
      over = λ r l.
          each_row (λ x. x.over ≡ (not x.searching && x.from == x.to)) rows new row e
          (λ i m. old.over i (omega (arith, m, long))) c.is_over-over.ensures r
          (omega (arith, l, c.push_reserved.ensures.len, long));
      first_line = ap (λ (x : Row). x.line) (kept 0 (omega (arith, long, old.two))) ∙ old.first_line;
      second_line = ap (λ (x : Row). x.line) (kept 1 (omega (arith, long, old.two))) ∙ old.second_line;
      first_searches = ap (λ (x : Row). x.searching) (kept 0 (omega (arith, long, old.two))) ∙ old.first_searches;
      second_searches = ap (λ (x : Row). x.searching) (kept 1 (omega (arith, long, old.two))) ∙ old.second_searches;
      first_empty = ap (λ (x : Row). x.to) (kept 0 (omega (arith, long, old.two))) ∙ old.first_empty;
      second_empty = ap (λ (x : Row). x.to) (kept 1 (omega (arith, long, old.two))) ∙ old.second_empty;
    }

pub returns-clause-steps : goal.returns-clause-steps
returns-clause-steps c = λ T e known.
    let old = c.args.self.now in
    let R = row_table_of old in
    let long : length old.rows.items ≡ old.rows.len = omega (arith, old.rows.ok.0) in
    steps_more T e R _
    (keeps_more R _ c.args.threads.now _ c.push_reserved.ensures.items c.add_threads.ensures.items
    (λ r l. old.ordered r (omega (arith, l, long))) (λ r l. omega (arith, old.ranges r (omega (arith, l, long)), old.pool.ok.0)))
    (omega (arith, old.square, long, old.cells.ok.0))
    (ap length c.push_reserved.ensures.items ∙ length-append old.rows.items _) c.add_cells.ensures.items known
