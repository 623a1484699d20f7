use Rattle.ere_tree.specs.View.{view}
use Rattle.ere_relaxed.specs.Freed.{AllStandFor}
use Rattle.ere_relaxed.proofs.freed.by_groups.Given as goal

abbrev pub invariant-loop-number : goal.invariant-loop-number
invariant-loop-number l = AllStandFor (view l.ere) l.all.items
