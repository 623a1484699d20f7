-- At each place the walk stands on the nodes to which paths from the given places have come, and the ends before it were found.
-- `FoundTo` goes on by a place that is an end or none; where nothing stands behind the last of the given places, all is found.
-- The hard one is `loop-place-preserved`.
use Rattle.std.proofs.Common.{ℕ, ◌+◌, ◌≤◌, Vec, Global, sym, ◌∙◌, subst, arith, eqb-true, true≢false}
use Rattle.ere_table.specs.Node.{node_at}
use Rattle.ere_table.specs.Path.{LeadsAs}
use Rattle.ere_table.specs.declared.table.NodeTable.{NodeTable}
use Rattle.ere_tree.specs.View.{view}
use Rattle.ere_auto.specs.Ends.{AreOn, AreOne, Comes, PassesAll}
use Rattle.ere_auto.proofs.EndsLemmas.{FoundTo, comes_first, found_all, found_first, found_here, found_no_more, found_none_here}
use Rattle.ere_auto.proofs.ends.walked.Goals.{then-pass+in_ok-push, else-pass}
use Rattle.ere_auto.proofs.ends.walked.Goals as goal

pub loop-place-init : goal.loop-place-init
loop-place-init c =
    let s = c.args.text.now in
    let t = view c.args.ere.now in
    let from = c.args.from.now in
    let first = c.least_of-first.result in
    let table = c.in_ok-walk.walk.table in
    let T = node_at table.nodes.items in
    let none = c.in_ok-walk.ensures.none in
    record {
      leads = c.in_ok-walk.ensures.table;
      one = subst AreOne (sym none) (λ x l. absurd (omega (arith, l)));
      comes = λ fits.
          subst (AreOn (Comes s T table.entry from first)) (sym none)
          (comes_first s T table.entry from first c.least_of-first.ensures.least);
      found =
          subst (λ xs. FoundTo s t c.args.window from xs first) (sym c.new-found.ensures.items)
          (found_first s t c.args.window from c.requires.ahead c.requires.window c.requires.inside table.nodes.items table.entry
          c.in_ok-walk.ensures.table first c.least_of-first.ensures.least);
    }

pub returns-then-is_empty : goal.returns-then-is_empty
returns-then-is_empty c =
    let s = c.args.text.now in
    let from = c.args.from.now in
    let place = c.loop-place.place in
    let table = c.loop-place.walk.table in
    let K = c.stand.new.self.standing.held.items in
    let on = c.stand.ensures.stands s from c.in_ok-begins.ensures (c.loop-place.invariant.comes (omega (arith, c.loop-place-test.true))) in
    found_no_more s (view c.args.ere.now) c.args.window from c.requires.ahead c.requires.window c.requires.inside table.nodes.items table.entry
    c.loop-place.invariant.leads place c.greatest_of-last.result c.loop-place.found.items K
    (let none = eqb-true c.stand.new.self.standing.held.len 0 (sym c.is_empty.ensures ∙ c.if-is_empty.true) in
    omega (arith, none)) on
    c.greatest_of-last.ensures c.if-place-last.true c.loop-place.invariant.found

pub loop-place-preserved : goal.loop-place-preserved
loop-place-preserved c =
    let s = c.args.text.now in
    let t = view c.args.ere.now in
    let from = c.args.from.now in
    let place = c.loop-place.place in
    let found = c.loop-place.found.items in
    let table = c.loop-place.walk.table in
    let T = node_at table.nodes.items in
    let old = c.stand.new.self.standing.held.items in
    let new = c.pass.new.self.standing.held.items in
    let same = c.pass.ensures.table ∙ c.stand.ensures.table in
    let before = c.loop-place.invariant in
    let high : place ≤ c.args.window.high = omega (arith, c.loop-place-test.true) in
    let on = c.stand.ensures.stands s from c.in_ok-begins.ensures (before.comes high) in
    let through = subst (λ (x : NodeTable). PassesAll s x place old new c.pass.result) c.stand.ensures.table
    c.pass.ensures.passes from on in
    record {
      leads = subst (λ (x : NodeTable). LeadsAs x.nodes.items x.entry t) (sym same) before.leads;
      one = c.pass.ensures.one;
      comes = λ fits.
          subst (λ (x : NodeTable). AreOn (Comes s (node_at x.nodes.items) x.entry from (place + 1)) new) (sym same)
          (through.next (omega (arith, fits, c.requires.window)));
      found = elim c.if-pass.branch [
        | then-pass+in_ok-push w ↦
            subst (λ (v : Vec ℕ Global). FoundTo s t c.args.window from v.items (place + 1)) (sym w.found-is)
            (subst (λ xs. FoundTo s t c.args.window from xs (place + 1)) (sym w.in_ok-push.ensures.items)
            (found_here s t c.args.window from c.requires.ahead c.requires.window c.requires.inside table.nodes.items
            table.entry before.leads place
            found high (through.stop.0 w.if-pass.true) before.found))
        | else-pass w ↦
            subst (λ (v : Vec ℕ Global). FoundTo s t c.args.window from v.items (place + 1)) (sym w.found-is)
            (found_none_here s t c.args.window from c.requires.ahead c.requires.window c.requires.inside table.nodes.items table.entry before.leads
            place found (λ arrived. true≢false (sym (through.stop.1 arrived) ∙ w.if-pass.false)) before.found)
      ];
    }

pub returns : goal.returns
returns c =
    found_all c.args.text.now (view c.args.ere.now) c.args.window c.args.from.now c.requires.ahead c.requires.window
    c.requires.inside c.loop-place.walk.table.nodes.items c.loop-place.walk.table.entry c.loop-place.invariant.leads c.loop-place.place c.loop-place.found.items
    (omega (arith, c.loop-place-test.false)) c.loop-place.invariant.found
