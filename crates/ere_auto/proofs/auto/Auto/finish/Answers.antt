use Rattle.ere_auto.proofs.SeenLemmas.{found_at_end, found_waiting_end}
use Rattle.ere_auto.specs.State.{state_of}
use Rattle.ere_auto.proofs.auto.Auto.finish.Goals as goal

pub returns-then-self-clause-ended : goal.returns-then-self-clause-ended
returns-then-self-clause-ended c = λ t front seen.
    found_at_end (state_of c.args.self.now) (state_of c.end-note.new.self) t c.end-note.result.begun
    c.end-note.result.met front c.end-note.ensures seen c.if-self.true

pub returns-else-self-clause-ended : goal.returns-else-self-clause-ended
returns-else-self-clause-ended c = λ t front seen.
    found_waiting_end (state_of c.args.self.now) t front seen c.if-self.false
