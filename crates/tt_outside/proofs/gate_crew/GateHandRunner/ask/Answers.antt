use Rattle.tt_outside.proofs.GateLemmas.{gate_same}
use Rattle.tt_outside.proofs.gate_crew.GateHandRunner.ask.Goals as goal

pub returns-clause-gave : goal.returns-clause-gave
returns-clause-gave c = gate_same _ _ _ c.ask.ensures.gave
