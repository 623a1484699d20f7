use Rattle.std.proofs.Common.{◌≤◌, ◌<◌, ◌+◌, ◌-◌, ◌/◌, ℕ, arith, subst}
use Rattle.tt_base.specs.declared.place.Span.{Span}
use Rattle.check_group.proofs.OrderLemmas.{all_up_to}
use Rattle.check_group.proofs.ranges.passed.Goals as goal

pub loop-low-preserved-then-index-from : goal.loop-low-preserved-then-index-from
loop-low-preserved-then-index-from c =
    let l = c.loop-low in
    let middle : ℕ = l.low + (l.high - l.low) / 2 in
    let below : middle < l.high = omega (arith, c.loop-low-test.true) in
    record {
      ordered = omega (arith, below);
      within = l.invariant.within;
      before = all_up_to c.args.from middle c.args.ranges.now.items c.index.result.now c.requires.in_order
          (omega (arith, below, l.invariant.within))
          (subst (λ (one : Span). one.to ≤ c.args.from) c.index.ensures c.if-index-from.true);
    }
