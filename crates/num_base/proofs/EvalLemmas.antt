-- An expression is undefined exactly where one of its names has no value.
use Rattle.std.proofs.Common.{◌≡◌, ℤ, pos, negsuc, zero, suc, ◌+ℤ◌, ◌-ℤ◌, ◌*ℤ◌, Option, Some, None, Result, Ok, Err, Bool, true, false, ◌||◌, is_none, refl, ◌∙◌, if◌then◌else◌}
use Rattle.std.specs.Prelude.{int_div}
use Rattle.num_base.specs.Value.{is_value, quotient}
use Rattle.num_base.specs.Term.{literal, line, name, binary}
use Rattle.num_base.specs.Eval.{done, both, found, value_of, is_undefined, UndefinedIsLacking}
use Rattle.num_base.specs.declared.expr.Op.{Op}
use Rattle.num_base.specs.declared.expr.Op.TheVariants.{Add, Sub, Mul, Div, Max, Min}
use Rattle.num_base.specs.declared.evaluation.EvalFault.{EvalFault}
use Rattle.num_base.specs.declared.evaluation.EvalFault.TheVariants.{Undefined, Range, ZeroDivisor}

chosen_defined : (b : Bool) (z : ℤ) → is_undefined (if b then Ok z else Err Range) ≡ false
chosen_defined true z = refl
chosen_defined false z = refl

quotient_defined : (a b : ℤ) → is_undefined (quotient a b) ≡ false
quotient_defined a (pos zero) = refl
quotient_defined a (pos (suc n)) = chosen_defined (is_value (int_div a (pos (suc n)))) (int_div a (pos (suc n)))
quotient_defined a (negsuc n) = chosen_defined (is_value (int_div a (negsuc n))) (int_div a (negsuc n))

done_defined : (op : Op) (a b : ℤ) → is_undefined (done op a b) ≡ false
done_defined Add a b = chosen_defined (is_value (a +ℤ b)) (a +ℤ b)
done_defined Sub a b = chosen_defined (is_value (a -ℤ b)) (a -ℤ b)
done_defined Mul a b = chosen_defined (is_value (a *ℤ b)) (a *ℤ b)
done_defined Div a b = quotient_defined a b
done_defined Max a b = refl
done_defined Min a b = refl

both_undefined : (op : Op) (l r : Result ℤ EvalFault)
    → is_undefined (both (done op) l r) ≡ (is_undefined l || is_undefined r)
both_undefined op (Err Undefined) r = refl
both_undefined op (Err Range) (Err Undefined) = refl
both_undefined op (Err Range) (Err Range) = refl
both_undefined op (Err Range) (Err ZeroDivisor) = refl
both_undefined op (Err Range) (Ok b) = refl
both_undefined op (Err ZeroDivisor) (Err Undefined) = refl
both_undefined op (Err ZeroDivisor) (Err Range) = refl
both_undefined op (Err ZeroDivisor) (Err ZeroDivisor) = refl
both_undefined op (Err ZeroDivisor) (Ok b) = refl
both_undefined op (Ok a) (Err Undefined) = refl
both_undefined op (Ok a) (Err Range) = refl
both_undefined op (Ok a) (Err ZeroDivisor) = refl
both_undefined op (Ok a) (Ok b) = done_defined op a b

found_undefined : (o : Option ℤ) → is_undefined (found o) ≡ is_none o
found_undefined (Some z) = refl
found_undefined None = refl

pub undefined_lacks : UndefinedIsLacking
undefined_lacks numbers at (literal z) = refl
undefined_lacks numbers at line = refl
undefined_lacks numbers at (name bytes) = found_undefined (numbers bytes)
undefined_lacks numbers at (binary op l r) =
    both_undefined op (value_of numbers at l) (value_of numbers at r)
    ∙ (λ i. undefined_lacks numbers at l i || undefined_lacks numbers at r i)
