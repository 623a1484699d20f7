-- The first step begins the one start, and behind it none begins; each step tells whether the place in front of it is an end.
-- `AloneAt` is what holds at each place: the threads are those of the start, and the ends before it were found.
-- The hard one is `loop-index-init`, which goes from a fresh automaton to one that follows the start alone.
use Rattle.std.proofs.Common.{◌≡◌, ℕ, ◌+◌, ◌≤◌, true, Vec, Global, sym, ap, ◌∙◌, ◌∷◌, [], subst, arith}
use Rattle.ere_auto.specs.RowTable.{row_in}
use Rattle.ere_auto.specs.State.{state_of}
use Rattle.ere_auto.proofs.AloneLemmas.{alone_all, alone_begun, alone_more, alone_no_more, first_tells, for_fresh, for_met, found_before, found_no_stop, found_stop, next_tells}
use Rattle.ere_auto.proofs.EndsLemmas.{FoundTo}
use Rattle.ere_auto.proofs.RowTableLemmas.{over_row}
use Rattle.ere_auto.proofs.auto.Auto.ends_alone.Goals.{then-meets+in_ok-push, else-meets, then-meets-2+in_ok-push-2, else-meets-2}
use Rattle.ere_auto.proofs.auto.Auto.ends_alone.Goals as goal

pub loop-index-init : goal.loop-index-init
loop-index-init c = record {
  behind = omega arith;
  alone = λ t of.
      let s = c.args.slice.now in
      let p = c.args.place in
      let window = c.args.window in
      let r = c.requires in
      let a = state_of c.args.self.now in
      let b = state_of c.restart.new.self in
      let m = state_of c.meets.new.self in
      let starts = c.is_line_start-starts.result in
      let next = c.byte_at.result in
      let stops = c.meets.result in
      let of_fresh = for_fresh a b t p starts c.restart.ensures of in
      let meets = c.meets.ensures t of_fresh in
      let told = first_tells a b m s p next stops starts c.restart.ensures (sym c.is_line_start-starts.ensures) meets c.byte_at.ensures in
      let first = subst (λ xs. FoundTo s t window (p ∷ []) xs p) (sym c.new-found.ensures.items)
      (found_before s t window p r.ahead r.window r.inside b of_fresh) in
      alone_begun s t window p r.ahead r.window r.inside a b m (state_of c.end_starts.new.self) starts next stops
      c.if-meets.found.items of c.restart.ensures meets told
      (c.end_starts.ensures t (for_met b m t next stops of_fresh meets))
      (elim c.if-meets.branch [
        | then-meets+in_ok-push w ↦
            subst (λ (v : Vec ℕ Global). FoundTo s t window (p ∷ []) v.items (p + 1)) (sym w.found-is)
            (subst (λ xs. FoundTo s t window (p ∷ []) xs (p + 1)) (sym w.in_ok-push.ensures.items)
            (found_stop s t window p r.ahead r.window r.inside b m p c.new-found.result.items stops of_fresh told
            r.inside.1 w.if-meets.true first))
        | else-meets w ↦
            subst (λ (v : Vec ℕ Global). FoundTo s t window (p ∷ []) v.items (p + 1)) (sym w.found-is)
            (found_no_stop s t window p r.ahead r.window r.inside b m p c.new-found.result.items stops of_fresh told
            w.if-meets.false first)
      ]);
}

pub returns-then-row-clause-ends : goal.returns-then-row-clause-ends
returns-then-row-clause-ends c = λ t of.
    let now = c.loop-index.self in
    let row = row_in now.rows.rows.items now.row in
    let is : row.over ≡ true = ap (λ x. x.over) (sym c.row.ensures) ∙ c.if-row.true in
    let both = over_row now.rows.pool.items row (now.rows.over now.row now.in_rows) is in
    alone_no_more c.args.slice.now t c.args.window c.args.place c.requires.ahead c.requires.window c.requires.inside
    (state_of now) c.loop-index.index c.loop-index.found.items (c.loop-index.invariant.alone t of)
    (omega (arith, c.loop-index-test.true)) c.loop-index.invariant.behind both.1

pub loop-index-preserved : goal.loop-index-preserved
loop-index-preserved c = record {
  behind = omega (arith, c.loop-index.invariant.behind);
  alone = λ t of.
      let s = c.args.slice.now in
      let p = c.args.place in
      let window = c.args.window in
      let r = c.requires in
      let n = c.loop-index.index in
      let found = c.loop-index.found.items in
      let b = state_of c.loop-index.self in
      let m = state_of c.meets-in-loop-index.new.self in
      let next = c.byte_at-in-loop-index.result in
      let stops = c.meets-in-loop-index.result in
      let at = c.loop-index.invariant.alone t of in
      let high : n ≤ window.high = omega (arith, c.loop-index-test.true) in
      let meets = c.meets-in-loop-index.ensures t at.expression in
      let told = next_tells b m t s window p n found next stops at high c.loop-index.invariant.behind meets
      c.byte_at-in-loop-index.ensures in
      alone_more s t window p r.ahead r.window r.inside b m n next stops found c.if-meets-2.found.items at high meets told
      (elim c.if-meets-2.branch [
        | then-meets-2+in_ok-push-2 w ↦
            subst (λ (v : Vec ℕ Global). FoundTo s t window (p ∷ []) v.items (n + 1)) (sym w.found-is)
            (subst (λ xs. FoundTo s t window (p ∷ []) xs (n + 1)) (sym w.in_ok-push-2.ensures.items)
            (found_stop s t window p r.ahead r.window r.inside b m n found stops at.expression told high w.if-meets-2.true
            at.found))
        | else-meets-2 w ↦
            subst (λ (v : Vec ℕ Global). FoundTo s t window (p ∷ []) v.items (n + 1)) (sym w.found-is)
            (found_no_stop s t window p r.ahead r.window r.inside b m n found stops at.expression told w.if-meets-2.false
            at.found)
      ]);
}

pub returns-then-row-clause-kept : goal.returns-then-row-clause-kept
returns-then-row-clause-kept c = λ t of. (c.loop-index.invariant.alone t of).expression

pub returns-clause-kept : goal.returns-clause-kept
returns-clause-kept c = λ t of. (c.loop-index.invariant.alone t of).expression

pub returns-clause-ends : goal.returns-clause-ends
returns-clause-ends c = λ t of.
    alone_all c.args.slice.now t c.args.window c.args.place c.requires.ahead c.requires.window c.requires.inside
    (state_of c.loop-index.self) c.loop-index.index c.loop-index.found.items (c.loop-index.invariant.alone t of)
    (omega (arith, c.loop-index-test.false))
