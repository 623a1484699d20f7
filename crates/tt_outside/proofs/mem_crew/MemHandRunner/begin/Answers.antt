use Rattle.tt_outside.proofs.CrewLemmas.{last_added}
use Rattle.tt_outside.proofs.mem_crew.MemHandRunner.begin.Goals as goal

pub invariant_of-self : goal.invariant_of-self
invariant_of-self c = record { last = last_added _ _ _ c.begin.ensures.begun }
