use Rattle.std.proofs.Common.{◌≡◌, ℕ, ◌≤◌, Some, None, length, drop, sym, ap, ◌∙◌, arith, length-drop}
use Rattle.std.proofs.lemmas.List.{drop-drop}
use Rattle.bool_exprs.specs.Place.{IsTurn, State, list_from}
use Rattle.bool_exprs.specs.View.{reader_view}
use Rattle.bool_exprs.proofs.ReaderLemmas.{list_end}
use Rattle.bool_exprs.proofs.reader.read_items.Goals as goal

pub returns-in-None : goal.returns-in-None
returns-in-None c =
    let held : State = reader_view c.loop-done.reader in
    let turned : IsTurn c.args.xfail held c.behind.result.now None = rw c.in-None.is at c.in_ok-turn.ensures.exact in
    record {
      exact = sym turned ∙ ap (list_from c.args.xfail held) c.behind.ensures ∙ c.loop-done.invariant.rest;
    }

pub loop-done-preserved : goal.loop-done-preserved
loop-done-preserved c =
    let held : State = reader_view c.loop-done.reader in
    let next : State = reader_view c.in-Some.next in
    let count : ℕ = c.in-Some.count in
    let turned : IsTurn c.args.xfail held c.behind.result.now (Some (next, count)) =
    rw c.in-Some.is at c.in_ok-turn.ensures.exact in
    let fits : count ≤ length c.behind.result.now = rw c.in-Some.is at c.in_ok-turn.ensures.within in
    let long : length c.behind.result.now ≡ length (drop c.loop-done.done c.args.text.now) = ap length c.behind.ensures in
    record {
      within = omega (arith, long, fits, length-drop c.loop-done.done c.args.text.now, c.loop-done.invariant.within);
      rest =
          ap (list_from c.args.xfail next)
          (sym (ap (drop count) c.behind.ensures ∙ drop-drop count c.loop-done.done c.args.text.now))
          ∙ turned ∙ ap (list_from c.args.xfail held) c.behind.ensures ∙ c.loop-done.invariant.rest;
    }

pub returns : goal.returns
returns c =
    let held : State = reader_view c.loop-done.reader in
    let none : length (drop c.loop-done.done c.args.text.now) ≡ 0 =
    omega (arith, length-drop c.loop-done.done c.args.text.now, c.loop-done-test.false) in
    record {
      exact = rw (sym (sym c.loop-done.invariant.rest
          ∙ list_end c.args.xfail held (drop c.loop-done.done c.args.text.now) none)) at c.finished.ensures;
    }
