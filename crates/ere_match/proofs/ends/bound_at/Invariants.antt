use Rattle.std.proofs.Common.{Some}
use Rattle.ere_tree.specs.View.{view}
use Rattle.ere_match.specs.Ends.{IsBound}
use Rattle.ere_match.proofs.ends.bound_at.Given as goal

abbrev pub invariant-loop-turn : goal.invariant-loop-turn
invariant-loop-turn l = IsBound l.slice (view l.ere) l.span.from l.span.to (Some l.high)
