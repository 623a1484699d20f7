use Rattle.std.proofs.Common.{◌≡◌, ◌+◌, ◌≤◌, ◌==◌, ◌&&◌, not, true, false, None, refl, ap, arith}
use Rattle.ere_auto.specs.RowTable.{row_in, slot_or_zero}
use Rattle.ere_auto.specs.declared.row.Row.{Row}
use Rattle.ere_auto.proofs.RowTableLemmas.{two_of, each_two, all_zero, steps_none}
use Rattle.ere_auto.proofs.rows.Rows.new.Goals as goal

pub invariant_of-result : goal.invariant_of-result
invariant_of-result c =
    let a : Row =
    record { from = 0; to = 0; line = true; searching = true; over = false; begun = None; met = None } in
    let b : Row =
    record { from = 0; to = 0; line = false; searching = true; over = false; begun = None; met = None } in
    let new = c.push_reserved-2.new.self.items in
    let e = two_of c.in_ok-rows.rows.items c.push_reserved.new.self.items new a b c.in_ok-rows.ensures.items
    c.push_reserved.ensures.items c.push_reserved-2.ensures.items in
    let two : c.push_reserved-2.new.self.len ≡ 2 =
    omega (arith, c.in_ok-rows.ensures.len, c.push_reserved.ensures.len, c.push_reserved-2.ensures.len) in
    let none : c.in_ok-pool.pool.len ≡ 0 = omega (arith, c.in_ok-pool.ensures.len) in
    let zero = all_zero c.in_ok-cells.cells.items c.add_cells.new.cells.items c.add_cells-2.new.cells.items
    c.in_ok-cells.ensures.items c.add_cells.ensures.items c.add_cells-2.ensures.items in
    record {
      two = omega (arith, two);
      few = omega (arith, two);
      rows_room = omega (arith, c.in_ok-rows.ensures.exact, c.push_reserved.ensures.capacity, c.push_reserved-2.ensures.capacity);
      square = omega (arith, two, c.in_ok-cells.ensures.len, c.add_cells.ensures.len, c.add_cells-2.ensures.len);
      cells_room = omega (arith, c.in_ok-cells.ensures.exact, c.add_cells.ensures.capacity, c.add_cells-2.ensures.capacity);
      inside = λ k l. omega (arith, zero k, two);
      ordered = λ r l. each_two (λ x. x.from ≤ x.to) new a b e (omega arith) (omega arith) r (omega (arith, l, two));
      ranges = λ r l.
          each_two (λ x. x.to ≤ c.in_ok-pool.pool.len) new a b e (omega arith) (omega arith) r (omega (arith, l, two));
      narrow = λ r l.
          each_two (λ x. x.to ≤ x.from + c.args.nodes) new a b e (omega arith) (omega arith) r (omega (arith, l, two));
      pool_fits = omega (arith, none);
      pool_room = omega (arith, c.in_ok-pool.ensures.exact);
      wide = omega (arith, c.in-Some.ensures);
      begun = λ r l.
          each_two (λ x. slot_or_zero x.begun ≤ c.args.nodes) new a b e (omega arith) (omega arith) r
          (omega (arith, l, two));
      met = λ r l.
          each_two (λ x. slot_or_zero x.met ≤ c.args.nodes) new a b e (omega arith) (omega arith) r
          (omega (arith, l, two));
      origins = λ x l. absurd (omega (arith, l, none));
      within = λ x l. absurd (omega (arith, l, none));
      over = λ r l.
          each_two (λ x. x.over ≡ (not x.searching && x.from == x.to)) new a b e refl refl r (omega (arith, l, two));
      first_line = ap (λ x. (row_in x 0).line) e;
      second_line = ap (λ x. (row_in x 1).line) e;
      first_searches = ap (λ x. (row_in x 0).searching) e;
      second_searches = ap (λ x. (row_in x 1).searching) e;
      first_empty = ap (λ x. (row_in x 0).to) e;
      second_empty = ap (λ x. (row_in x 1).to) e;
    }

pub returns-clause-steps : goal.returns-clause-steps
returns-clause-steps c = λ T e.
    steps_none T e _ (all_zero c.in_ok-cells.cells.items c.add_cells.new.cells.items c.add_cells-2.new.cells.items
    c.in_ok-cells.ensures.items c.add_cells.ensures.items c.add_cells-2.ensures.items)
