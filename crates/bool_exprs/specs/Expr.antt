-- Expressions over features as plain data, and when one holds.
-- After LLVM Testing Infrastructure Guide, 'Constraining test execution', and LLVM Command Guide, lit: an identifier
-- holds where it is a feature, and one with `{{ }}` parts where it matches a whole feature.
use Rattle.std.specs.Prelude.{◌≡◌, ℕ, Bool, false, ◌||◌, List, [], ◌∷◌, IsTrue, ◌⊎◌}
use Rattle.ere_tree.specs.Tree.{Tree}
use Rattle.ere_tree.specs.Shape.{has_refs}
use Rattle.ere_tree.specs.View.{view}
use Rattle.ere_whole.specs.Whole.{MatchesWhole}
use Rattle.bool_exprs.specs.declared.expr.BoolExpr.{BoolExpr}
use Rattle.bool_exprs.specs.declared.expr.BoolExpr.TheOpen.{BoolExpr-F}
use Rattle.bool_exprs.specs.declared.expr.BoolExpr.TheFolds.{fold-BoolExpr}

pub data Expr : Type 0 where
  constant : Bool → Expr
  name : List ℕ → Expr
  match : Tree → Expr
  negation : Expr → Expr
  both : Expr → Expr → Expr
  either : Expr → Expr → Expr

-- one level, with what is inside already seen
abbrev pub expr_step : BoolExpr-F Expr → Expr
expr_step (BoolExpr-F.Const value) = constant value
expr_step (BoolExpr-F.Name bytes) = name bytes
expr_step (BoolExpr-F.Match ere) = match (view ere)
expr_step (BoolExpr-F.Not inner) = negation inner.value
expr_step (BoolExpr-F.And left right) = both left.value right.value
expr_step (BoolExpr-F.Or left right) = either left.value right.value

-- an expression as plain data
abbrev pub expr_of : BoolExpr → Expr
expr_of = fold-BoolExpr Expr expr_step

-- one of the features is such
abbrev pub OneOf : (List ℕ → Type 0) → List (List ℕ) → Type 0
OneOf IsSuch [] = ⊥
OneOf IsSuch (feature ∷ features) = IsSuch feature ⊎ OneOf IsSuch features

-- the expression holds over these features
abbrev pub Holds : List (List ℕ) → Expr → Type 0
Holds features (constant value) = IsTrue value
Holds features (name bytes) = OneOf (λ feature. feature ≡ bytes) features
Holds features (match tree) = OneOf (MatchesWhole tree) features
Holds features (negation inner) = Holds features inner → ⊥
Holds features (both left right) = Holds features left × Holds features right
Holds features (either left right) = Holds features left ⊎ Holds features right

-- whether an expression holds a reference
abbrev pub refers : Expr → Bool
refers (constant value) = false
refers (name bytes) = false
refers (match tree) = has_refs tree
refers (negation inner) = refers inner
refers (both left right) = refers left || refers right
refers (either left right) = refers left || refers right
