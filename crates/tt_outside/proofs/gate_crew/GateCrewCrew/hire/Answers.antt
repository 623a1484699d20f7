use Rattle.tt_outside.proofs.GateLemmas.{gate_same}
use Rattle.tt_outside.proofs.gate_crew.GateCrewCrew.hire.Goals as goal

pub returns-in-Ok-hire-clause-own : goal.returns-in-Ok-hire-clause-own
returns-in-Ok-hire-clause-own c = gate_same _ _ _ c.in-Ok-hire.ensures.own

pub returns-in-Ok-hire-clause-gave : goal.returns-in-Ok-hire-clause-gave
returns-in-Ok-hire-clause-gave c = gate_same _ _ _ c.hire.ensures.gave

pub returns-in-Err-hire-clause-gave : goal.returns-in-Err-hire-clause-gave
returns-in-Err-hire-clause-gave c = gate_same _ _ _ c.hire.ensures.gave
