use Rattle.lit_inproc.proofs.InsideLemmas.{in_same}
use Rattle.lit_inproc.proofs.hand.InHandRunner.begin.Goals as goal

pub returns-clause-gave : goal.returns-clause-gave
returns-clause-gave g c = in_same _ _ c.begin.ensures.gave
