use Rattle.tt_outside.proofs.GateLemmas.{gate_same}
use Rattle.tt_outside.proofs.gate_crew.GateHandRunner.begin.Goals as goal

pub returns-then-test-lt3-clause-gave : goal.returns-then-test-lt3-clause-gave
returns-then-test-lt3-clause-gave c = gate_same _ _ _ c.begin.ensures.gave

pub returns-else-test-lt3-clause-gave : goal.returns-else-test-lt3-clause-gave
returns-else-test-lt3-clause-gave c = gate_same _ _ _ c.begin.ensures.gave
