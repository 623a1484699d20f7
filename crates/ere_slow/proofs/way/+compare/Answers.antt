use Rattle.std.proofs.Common.{arith, sym, ◌∙◌}
use Rattle.std.specs.Ordering.{ordering_then}
use Rattle.ere_slow.proofs.WayLemmas.{rows_decided, rows_undecided, rows_over}
use Rattle.ere_slow.proofs.way.+compare.Goals as goal

pub OwnedWays::compare-returns-then-ne : goal.OwnedWays::compare-returns-then-ne
OwnedWays::compare-returns-then-ne t c =
    rows_decided c.args.self.now c.args.others.now c.loop-k.k c.index-step.result.now c.index-other.result.now
    (omega (arith, c.loop-k-test.true)) c.index-step.ensures c.index-other.ensures
    c.then-first.result (c.then-first.ensures ∙ (λ n. ordering_then (c.cmp.ensures n) (c.compare.ensures n)))
    (sym c.ne.ensures ∙ c.if-ne.true) ∙ c.loop-k.invariant

pub OwnedWays::compare-loop-k-preserved : goal.OwnedWays::compare-loop-k-preserved
OwnedWays::compare-loop-k-preserved t c =
    rows_undecided c.args.self.now c.args.others.now c.loop-k.k c.index-step.result.now c.index-other.result.now
    (omega (arith, c.loop-k-test.true)) c.index-step.ensures c.index-other.ensures
    c.then-first.result (c.then-first.ensures ∙ (λ n. ordering_then (c.cmp.ensures n) (c.compare.ensures n)))
    (sym c.ne.ensures ∙ c.if-ne.false) ∙ c.loop-k.invariant

pub OwnedWays::compare-returns : goal.OwnedWays::compare-returns
OwnedWays::compare-returns t c =
    sym (rows_over c.args.self.now c.args.others.now c.loop-k.k (omega (arith, c.loop-k-test.false)))
    ∙ c.loop-k.invariant
