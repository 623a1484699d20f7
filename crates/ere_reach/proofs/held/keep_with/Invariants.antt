use Rattle.std.proofs.Common.{◌==◌, if◌then◌else◌, take}
use Rattle.ere_reach.specs.Held.{part_in}
use Rattle.ere_reach.proofs.HeldLemmas.{IsMade}
use Rattle.ere_reach.proofs.held.keep_with.Given as goal

abbrev pub invariant-loop-number : goal.invariant-loop-number
invariant-loop-number l =
    IsMade (λ n. if n == l.own then l.part else part_in l.held n) (take l.number-index l.live) l.list.items
