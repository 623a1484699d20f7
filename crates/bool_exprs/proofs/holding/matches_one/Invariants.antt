use Rattle.std.proofs.Common.{drop}
use Rattle.ere_tree.specs.View.{view}
use Rattle.ere_whole.specs.Whole.{MatchesWhole}
use Rattle.bool_exprs.specs.Expr.{OneOf}
use Rattle.bool_exprs.proofs.holding.matches_one.Given as goal

abbrev pub invariant-loop-feature : goal.invariant-loop-feature
invariant-loop-feature l = OneOf (MatchesWhole (view l.ere)) l.features → OneOf (MatchesWhole (view l.ere)) (drop l.feature-index l.features)
