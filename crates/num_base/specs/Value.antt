-- Values: whole numbers from -2^127 to 2^127-1, and operations on them.
-- Own rule: the range, and that each operation keeps it. LLVM Command Guide, FileCheck, speaks of 64 bits or more.
use Rattle.std.specs.Prelude.{◌^◌, Bool, ℤ, pos, negsuc, zero, suc, nat_lt, if◌then◌else◌, int_div, Result, Ok, Err}
use Rattle.num_base.specs.declared.evaluation.EvalFault.{EvalFault}
use Rattle.num_base.specs.declared.evaluation.EvalFault.TheVariants.{Range, ZeroDivisor}

-- whether a whole number is a value (`negsuc n` is -(n+1))
abbrev pub is_value : ℤ → Bool
is_value (pos n) = nat_lt n (2 ^ 127)
is_value (negsuc n) = nat_lt n (2 ^ 127)

-- a whole number as the result of an operation
abbrev pub in_range : ℤ → Result ℤ EvalFault
in_range z = if is_value z then Ok z else Err Range

-- division, which cuts toward zero
abbrev pub quotient : ℤ → ℤ → Result ℤ EvalFault
quotient a (pos zero) = Err ZeroDivisor
quotient a (pos (suc n)) = in_range (int_div a (pos (suc n)))
quotient a (negsuc n) = in_range (int_div a (negsuc n))
