-- Ends are gone through one by one; each lies in the window.
use Rattle.std.proofs.Common.{◌≡◌, ℕ, ◌≤◌, ◌+◌, List, [], ◌∷◌, get_or, sym, ap, subst, inl, inr, arith, take, take_all}
use Rattle.std.proofs.lemmas.List.{get_or_default}
use Rattle.std.specs.List.{Contains}
use Rattle.ere_captures.proofs.GreatestLemmas.{ends_are}
use Rattle.ere_places.proofs.ListLemmas.{taken}
use Rattle.ere_tree.specs.View.{view}
use Rattle.ere_match.proofs.line.last_from.Goals as goal

pub loop-end-preserved : goal.loop-end-preserved
loop-end-preserved c =
    let ends = c.deref-end-items.result.now in
    let i = c.loop-end.end-index in
    let end = get_or ends i 0 in
    let are = ends_are c.args.slice.now (view c.args.free.now) c.args.low c.args.high c.in_ok-ends.ends.items
    c.requires.order c.in_ok-ends.ensures in
    let old = c.loop-end.invariant in
    let here : Contains c.in_ok-ends.ends.items end =
    subst (λ xs. Contains xs end) c.deref-end-items.ensures.value (i, c.loop-end-test.true, get_or_default ends i end 0 c.loop-end-test.true) in
    let inside = ((are end).0 here).1 in
    record {
      order = omega (arith, old.order, c.max-last.ensures);
      inside = omega (arith, old.inside, inside, c.max-last.ensures);
      each = λ q has. elim ((taken ends i c.loop-end-test.true q).0 has) [
        | inl before ↦ let low = old.each q before in omega (arith, low, c.max-last.ensures)
        | inr is ↦ omega (arith, is, c.max-last.ensures)
      ];
    }

pub returns : goal.returns
returns c =
    let ends = c.deref-end-items.result.now in
    let are = ends_are c.args.slice.now (view c.args.free.now) c.args.low c.args.high c.in_ok-ends.ends.items
    c.requires.order c.in_ok-ends.ensures in
    record {
      order = c.loop-end.invariant.order;
      inside = c.loop-end.invariant.inside;
      ends = λ k high shows.
          c.loop-end.invariant.each k
          (subst (λ (xs : List ℕ). Contains xs k)
          (sym (take_all c.loop-end.end-index ends (omega (arith, c.loop-end-test.false))))
          (subst (λ xs. Contains xs k) (sym c.deref-end-items.ensures.value) ((are k).1 (shows, high))));
    }
