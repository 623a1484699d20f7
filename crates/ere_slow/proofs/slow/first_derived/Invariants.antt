use Rattle.ere_tree.specs.View.{view}
use Rattle.ere_slow.specs.Slow.{HasNoHitBefore}
use Rattle.ere_slow.proofs.slow.first_derived.Given as goal

abbrev pub invariant-loop-start : goal.invariant-loop-start
invariant-loop-start l = HasNoHitBefore l.slice (view l.ere) l.start
