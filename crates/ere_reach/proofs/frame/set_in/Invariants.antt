use Rattle.std.proofs.Common.{take}
use Rattle.ere_reach.specs.Memo.{HasSetIn}
use Rattle.ere_tree.specs.View.{view}
use Rattle.ere_reach.proofs.frame.set_in.Given as goal

abbrev pub invariant-loop-number : goal.invariant-loop-number
invariant-loop-number l = HasSetIn (view l.ere) (take l.number-index l.numbers) l.own.items
