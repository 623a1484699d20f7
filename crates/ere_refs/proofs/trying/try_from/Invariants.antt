use Rattle.ere_tree.specs.View.{view}
use Rattle.ere_refs.proofs.TryingLemmas.{Passed}
use Rattle.ere_refs.proofs.trying.try_from.Given as goal

abbrev pub invariant-loop-back : goal.invariant-loop-back
invariant-loop-back l = Passed l.slice (view l.ere) l.span.from l.span.to l.back
