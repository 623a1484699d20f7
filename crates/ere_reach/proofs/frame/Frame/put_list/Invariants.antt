use Rattle.std.proofs.Common.{take}
use Rattle.ere_reach.proofs.FrameLemmas.{chosen}
use Rattle.ere_reach.proofs.HeldLemmas.{IsMade}
use Rattle.ere_reach.proofs.frame.Frame.put_list.Given as goal

abbrev pub invariant-loop-number : goal.invariant-loop-number
invariant-loop-number l =
    IsMade (chosen l.self.own.now l.self.held.now l.inside) (take l.number-index l.number-items) l.list.items
