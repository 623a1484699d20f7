use Rattle.std.proofs.Common.{length}
use Rattle.tt_base.specs.Occurrence.{StandsNowhere}
use Rattle.pattern_hits.proofs.plain.first_at.Given as goal

abbrev pub invariant-loop-at : goal.invariant-loop-at
invariant-loop-at l = StandsNowhere l.slice l.needle (length l.slice) 0 l.at
