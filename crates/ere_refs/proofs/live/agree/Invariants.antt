use Rattle.std.proofs.Common.{take}
use Rattle.ere_refs.specs.Machine.{AgreeOn}
use Rattle.ere_refs.proofs.live.agree.Given as goal

abbrev pub invariant-loop-number : goal.invariant-loop-number
invariant-loop-number l = AgreeOn (take l.number-index l.live) l.one l.other
