use Rattle.std.proofs.Common.{sym, ◌∙◌, subst, ◌≤◌, ◌<◌}
use Rattle.tt_base.specs.declared.place.Span.{Span}
use Rattle.check_group.proofs.OrderLemmas.{none_from}
use Rattle.check_group.proofs.ranges.lowest_overlapped.Goals as goal

pub returns-then-m-range-clause-value : goal.returns-then-m-range-clause-value
returns-then-m-range-clause-value c =
    let l = c.loop-number in
    sym (none_from c.args.m l.number c.args.ranges.now.items c.index-range.result.now c.requires.in_order
    (subst (λ end. l.number < end) (c.len-number-end.ensures ∙ c.args.ranges.now.ok.0) c.loop-number-test.true)
    (subst (λ (one : Span). c.args.m.to ≤ one.from) c.index-range.ensures c.if-m-range.true))
    ∙ l.invariant.same
