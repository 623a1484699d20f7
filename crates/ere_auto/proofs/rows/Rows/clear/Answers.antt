use Rattle.std.proofs.Common.{◌≡◌, ℕ, ◌+◌, ◌<◌, ◌≤◌, ◌==◌, ◌&&◌, not, length, sym, ap, ◌∙◌, subst, arith}
use Rattle.ere_auto.specs.RowTable.{slot_or_zero}
use Rattle.ere_auto.specs.declared.row.Row.{Row}
use Rattle.ere_auto.proofs.RowTableLemmas.{row_front, two_rows, all_zero, steps_none}
use Rattle.ere_auto.proofs.rows.Rows.clear.Goals as goal

pub invariant_of-self : goal.invariant_of-self
invariant_of-self c =
    let old = c.args.self.now in
    let rows = old.rows.items in
    let new = c.truncate.new.self.items in
    let long : length rows ≡ old.rows.len = omega (arith, old.rows.ok.0) in
    let two : c.truncate.new.self.len ≡ 2 = omega (arith, c.truncate.ensures.len, old.two) in
    let none : c.clear.new.self.len ≡ 0 = omega (arith, c.clear.ensures.len) in
    let same = λ (r : ℕ) (l : r < 2). row_front rows new r c.truncate.ensures.items l in
    let zero = all_zero c.clear-2.new.self.items c.add_cells.new.cells.items c.add_cells-2.new.cells.items
    c.clear-2.ensures.items c.add_cells.ensures.items c.add_cells-2.ensures.items in
    record {
      two = omega (arith, two);
      few = omega (arith, two);
      rows_room = omega (arith, c.truncate.ensures.capacity, old.rows_room);
      square = omega (arith, two, c.clear-2.ensures.len, c.add_cells.ensures.len, c.add_cells-2.ensures.len);
      cells_room =
          omega (arith, c.clear-2.ensures.capacity, c.add_cells.ensures.capacity, c.add_cells-2.ensures.capacity, old.cells_room);
      inside = λ k l. omega (arith, zero k, two);
      ordered = λ r l.
          subst (λ (x : Row). x.from ≤ x.to) (sym (same r (omega (arith, l, two)))) (old.ordered r (omega (arith, l, two, old.two)));
      ranges = λ r l.
          subst (λ (x : Row). x.to ≤ c.clear.new.self.len) (sym (same r (omega (arith, l, two))))
          (omega (arith, two_rows rows r old.first_empty old.second_empty (omega (arith, l, two))));
      narrow = λ r l.
          subst (λ (x : Row). x.to ≤ x.from + old.nodes) (sym (same r (omega (arith, l, two)))) (old.narrow r (omega (arith, l, two, old.two)));
      pool_fits = omega (arith, none);
      pool_room = omega (arith, c.clear.ensures.capacity, old.pool_room);
      wide = old.wide;
      begun = λ r l.
          subst (λ (x : Row). slot_or_zero x.begun ≤ old.nodes) (sym (same r (omega (arith, l, two)))) (old.begun r (omega (arith, l, two, old.two)));
      met = λ r l.
          subst (λ (x : Row). slot_or_zero x.met ≤ old.nodes) (sym (same r (omega (arith, l, two)))) (old.met r (omega (arith, l, two, old.two)));
      origins = λ x l. absurd (omega (arith, l, none));
      within = λ x l. absurd (omega (arith, l, none));
      over = λ r l.
          subst (λ (x : Row). x.over ≡ (not x.searching && x.from == x.to)) (sym (same r (omega (arith, l, two))))
          (old.over r (omega (arith, l, two, old.two)));
      first_line = ap (λ (x : Row). x.line) (same 0 (omega arith)) ∙ old.first_line;
      second_line = ap (λ (x : Row). x.line) (same 1 (omega arith)) ∙ old.second_line;
      first_searches = ap (λ (x : Row). x.searching) (same 0 (omega arith)) ∙ old.first_searches;
      second_searches = ap (λ (x : Row). x.searching) (same 1 (omega arith)) ∙ old.second_searches;
      first_empty = ap (λ (x : Row). x.to) (same 0 (omega arith)) ∙ old.first_empty;
      second_empty = ap (λ (x : Row). x.to) (same 1 (omega arith)) ∙ old.second_empty;
    }

pub returns-clause-steps : goal.returns-clause-steps
returns-clause-steps c = λ T e.
    steps_none T e _ (all_zero c.clear-2.new.self.items c.add_cells.new.cells.items c.add_cells-2.new.cells.items
    c.clear-2.ensures.items c.add_cells.ensures.items c.add_cells-2.ensures.items)
