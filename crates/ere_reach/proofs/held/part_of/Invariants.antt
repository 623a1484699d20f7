use Rattle.std.proofs.Common.{◌≡◌, drop}
use Rattle.ere_reach.specs.Held.{part_in}
use Rattle.ere_reach.proofs.held.part_of.Given as goal

abbrev pub invariant-loop-one : goal.invariant-loop-one
invariant-loop-one l = part_in (drop l.one-index l.held) l.number ≡ part_in l.held l.number
