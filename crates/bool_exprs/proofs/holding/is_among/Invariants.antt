use Rattle.std.proofs.Common.{◌≡◌, drop}
use Rattle.bool_exprs.specs.Expr.{OneOf}
use Rattle.bool_exprs.proofs.holding.is_among.Given as goal

abbrev pub invariant-loop-feature : goal.invariant-loop-feature
invariant-loop-feature l = OneOf (λ feature. feature ≡ l.name) l.features → OneOf (λ feature. feature ≡ l.name) (drop l.feature-index l.features)
