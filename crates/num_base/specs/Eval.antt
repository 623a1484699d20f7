-- The value of an expression, or why it has none.
-- Own rule: a name without a value comes before all, then the first fault from the left counts, that of operands
-- before that of their operation.
use Rattle.std.specs.Prelude.{◌≡◌, Bool, true, false, ◌||◌, is_none, ℕ, ℤ, pos, ◌+ℤ◌, ◌-ℤ◌, ◌*ℤ◌, List, Option, Some, None, Result, Ok, Err}
use Rattle.std.specs.Int.{int_max, int_min}
use Rattle.num_base.specs.Term.{Term, literal, line, name, binary}
use Rattle.num_base.specs.Value.{in_range, quotient}
use Rattle.num_base.specs.declared.expr.Op.{Op}
use Rattle.num_base.specs.declared.expr.Op.TheVariants.{Add, Sub, Mul, Div, Max, Min}
use Rattle.num_base.specs.declared.evaluation.EvalFault.{EvalFault}
use Rattle.num_base.specs.declared.evaluation.EvalFault.TheVariants.{Undefined, Range, ZeroDivisor}

-- one operation on values
abbrev pub done : Op → ℤ → ℤ → Result ℤ EvalFault
done Add a b = in_range (a +ℤ b)
done Sub a b = in_range (a -ℤ b)
done Mul a b = in_range (a *ℤ b)
done Div a b = quotient a b
done Max a b = Ok (int_max a b)
done Min a b = Ok (int_min a b)

-- an operation on two outcomes: Undefined before all, then the left side's fault, the right side's, the operation's
abbrev pub both : (ℤ → ℤ → Result ℤ EvalFault) → Result ℤ EvalFault → Result ℤ EvalFault
    → Result ℤ EvalFault
both f (Err Undefined) r = Err Undefined
both f l (Err Undefined) = Err Undefined
both f (Err fault) r = Err fault
both f (Ok a) (Err fault) = Err fault
both f (Ok a) (Ok b) = f a b

-- the value of a name
abbrev pub found : Option ℤ → Result ℤ EvalFault
found (Some z) = Ok z
found None = Err Undefined

-- the value of an expression on the line of this number
abbrev pub value_of : (List ℕ → Option ℤ) → ℕ → Term → Result ℤ EvalFault
value_of numbers at (literal z) = Ok z
value_of numbers at line = Ok (pos at)
value_of numbers at (name bytes) = found (numbers bytes)
value_of numbers at (binary op left right) =
    both (done op) (value_of numbers at left) (value_of numbers at right)

-- whether a name of the expression has no value
abbrev pub lacks : (List ℕ → Option ℤ) → Term → Bool
lacks numbers (literal z) = false
lacks numbers line = false
lacks numbers (name bytes) = is_none (numbers bytes)
lacks numbers (binary op left right) = lacks numbers left || lacks numbers right

-- whether there is no value for want of a name's
abbrev pub is_undefined : Result ℤ EvalFault → Bool
is_undefined (Err Undefined) = true
is_undefined (Err Range) = false
is_undefined (Err ZeroDivisor) = false
is_undefined (Ok z) = false

-- Law: an expression is undefined exactly where one of its names has no value.
abbrev pub UndefinedIsLacking : Type 0
UndefinedIsLacking =
    (numbers : List ℕ → Option ℤ) (at : ℕ) (t : Term)
    → is_undefined (value_of numbers at t) ≡ lacks numbers t
