use Rattle.std.proofs.Common.{take}
use Rattle.ere_reach.specs.Held.{part_in}
use Rattle.ere_reach.proofs.HeldLemmas.{IsMade}
use Rattle.ere_reach.proofs.held.kept.Given as goal

abbrev pub invariant-loop-number : goal.invariant-loop-number
invariant-loop-number l = IsMade (part_in l.held) (take l.number-index l.live) l.all.items
