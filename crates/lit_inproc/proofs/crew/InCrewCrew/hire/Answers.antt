use Rattle.lit_inproc.proofs.InsideLemmas.{in_same}
use Rattle.lit_inproc.proofs.crew.InCrewCrew.hire.Goals as goal

pub returns-in-Ok-clause-own : goal.returns-in-Ok-clause-own
returns-in-Ok-clause-own g c = rw c.round.ensures.0 (in_same _ _ c.in-Ok.ensures.own)

pub returns-in-Ok-clause-gave : goal.returns-in-Ok-clause-gave
returns-in-Ok-clause-gave g c = in_same _ _ c.hire.ensures.gave

pub returns-in-Err-clause-gave : goal.returns-in-Err-clause-gave
returns-in-Err-clause-gave g c = in_same _ _ c.hire.ensures.gave
