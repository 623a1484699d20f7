-- Expressions as plain data, which all definitions of numbers speak of.
-- After LLVM Command Guide, FileCheck, 'FileCheck Numeric Substitution Blocks'.
use Rattle.std.specs.Prelude.{ℕ, ℤ, List}
use Rattle.num_base.specs.declared.expr.Op.{Op}
use Rattle.num_base.specs.declared.expr.Expr.{Expr}
use Rattle.num_base.specs.declared.expr.Expr.TheOpen.{Expr-F}
use Rattle.num_base.specs.declared.expr.Expr.TheFolds.{fold-Expr}

pub data Term : Type 0 where
  literal : ℤ → Term
  line : Term
  name : List ℕ → Term
  binary : Op → Term → Term → Term

-- one level, with what is inside already seen
abbrev pub term_step : Expr-F Term → Term
term_step (Expr-F.Literal value) = literal value
term_step Expr-F.Line = line
term_step (Expr-F.Name bytes) = name bytes
term_step (Expr-F.Binary op left right) = binary op left.value right.value

-- an expression as plain data
abbrev pub term_of : Expr → Term
term_of = fold-Expr Term term_step
