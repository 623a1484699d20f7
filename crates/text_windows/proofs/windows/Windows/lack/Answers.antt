use Rattle.std.proofs.Common.{arith}
use Rattle.text_windows.proofs.WindowLemmas.{lacking}
use Rattle.text_windows.proofs.windows.Windows.lack.Goals as goal

pub returns-then-not-index : goal.returns-then-not-index
returns-then-not-index c = λ _.
    lacking c.args.self.now c.args.needle.now c.loop-at.at (omega (arith, c.loop-at-test.true, c.loop-at.auto.at-end))
    (grind (arith, c.slot_at.ensures.value, c.index.ensures, c.if-not-index.true, c.loop-at.invariant.same, c.self.view_is))
