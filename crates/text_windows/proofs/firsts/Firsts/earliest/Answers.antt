use Rattle.std.proofs.Common.{arith, refl}
use Rattle.text_windows.specs.Windows.{slot_at}
use Rattle.text_windows.proofs.WindowLemmas.{begins_later, placed}
use Rattle.text_windows.proofs.firsts.Firsts.earliest.Goals as goal

pub loop-at-preserved : goal.loop-at-preserved
loop-at-preserved c = record {
  same = refl;
  before = λ text are.
      begins_later c.self.inside.places.items c.args.needle.now c.loop-at.at c.loop-at.earliest c.max-earliest.result
      (omega (arith, c.loop-at-test.true, c.loop-at.auto.at-end))
      (placed c.self.inside.places.items (slot_at c.args.needle.now c.loop-at.at) c.slot_at.result c.index-place.result.now
      c.loop-at.at c.loop-at.earliest c.max-earliest.result c.self.invariant c.slot_at.ensures.value c.slot_at.ensures.within
      c.index-place.ensures (grind (arith, c.max-earliest.ensures, c.saturating_sub.ensures)))
      text are (c.loop-at.invariant.before text are);
}
