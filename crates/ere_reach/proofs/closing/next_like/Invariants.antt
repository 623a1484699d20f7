use Rattle.ere_reach.specs.Leads.{StandsNotBefore}
use Rattle.ere_reach.proofs.closing.next_like.Given as goal

abbrev pub invariant-loop-place : goal.invariant-loop-place
invariant-loop-place l = StandsNotBefore l.site l.from l.to l.place
