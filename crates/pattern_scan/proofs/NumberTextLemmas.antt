-- A number that defines no name and has a value adds its printed bytes alone, and none of its names lacks a value.
-- By induction over the expression: where a whole has a value each of its sides has one.
-- The hard one is `both_have`, that both sides of an operation with a value have one.
use Rattle.std.proofs.Common.{◌≡◌, ℕ, ℤ, Bool, false, is_some, Option, Some, None, List, ◌∷◌, Result, Ok, Err, refl, ◌∙◌}
use Rattle.std.specs.Prelude.{if◌then◌else◌}
use Rattle.std.proofs.lemmas.Option.{none-some}
use Rattle.ere_tree.specs.Tree as tree
use Rattle.num_base.specs.Eval.{both, done, found, value_of}
use Rattle.num_base.specs.Term.{Term, literal, line, name, binary}
use Rattle.num_base.specs.declared.evaluation.EvalFault.{EvalFault}
use Rattle.num_base.specs.declared.evaluation.EvalFault.TheVariants.{Undefined, Range, ZeroDivisor}
use Rattle.num_base.specs.declared.format.Format.{Format}
use Rattle.pattern_instance.specs.Known.{Known}
use Rattle.pattern_instance.specs.Missing.{lacking, lacking_in}
use Rattle.pattern_instance.specs.Parts.{number_part, shown, ungrouped, valued}
use Rattle.pattern_scan.specs.Stored.{number_text, printed}

-- an expression that has a value lacks no name
abbrev has_value : Result ℤ EvalFault → Type 0
has_value (Ok value) = Unit {0}
has_value (Err fault) = ⊥

both_have : (f : ℤ → ℤ → Result ℤ EvalFault) (left right : Result ℤ EvalFault) → has_value (both f left right)
    → has_value left × has_value right
both_have f (Ok a) (Ok b) has = (tt, tt)
both_have f (Ok a) (Err Undefined) has = absurd has
both_have f (Ok a) (Err Range) has = absurd has
both_have f (Ok a) (Err ZeroDivisor) has = absurd has
both_have f (Err Undefined) right has = absurd has
both_have f (Err Range) (Ok b) has = absurd has
both_have f (Err Range) (Err Undefined) has = absurd has
both_have f (Err Range) (Err Range) has = absurd has
both_have f (Err Range) (Err ZeroDivisor) has = absurd has
both_have f (Err ZeroDivisor) (Ok b) has = absurd has
both_have f (Err ZeroDivisor) (Err Undefined) has = absurd has
both_have f (Err ZeroDivisor) (Err Range) has = absurd has
both_have f (Err ZeroDivisor) (Err ZeroDivisor) has = absurd has

name_told : (one : List ℕ) (value : Option ℤ) (others : List (List ℕ)) → has_value (found value)
    → (if is_some value then others else one ∷ others) ≡ others
name_told one (Some z) others has = refl
name_told one None others has = absurd has

none_lacks : (numbers : List ℕ → Option ℤ) (at : ℕ) (t : Term) (others : List (List ℕ))
    → has_value (value_of numbers at t) → lacking numbers t others ≡ others
none_lacks numbers at (literal z) others has = refl
none_lacks numbers at line others has = refl
none_lacks numbers at (name one) others has = name_told one (numbers one) others has
none_lacks numbers at (binary op left right) others has =
    let both = both_have (done op) (value_of numbers at left) (value_of numbers at right) has in
    none_lacks numbers at left (lacking numbers right others) both.0 ∙ none_lacks numbers at right others both.1

-- what a number that is text adds
value_text : (fold : Bool) (format : Format) (value : Result ℤ EvalFault) (run : List ℕ) → fold ≡ false
    → printed format value ≡ Some run
    → has_value value × (valued fold None format value ≡ Ok (ungrouped (tree.plain run) None))
value_text fold format (Ok value) run as_is is = (tt, (λ i. shown (as_is i) None value (is i)))
value_text fold format (Err fault) run as_is is = absurd (none-some run is)

pub number_is : (known : Known) (n : ℕ) (defines : Option (List ℕ)) (format : Format) (t : Option Term) (others : List (List ℕ))
    (run : List ℕ) → known.fold ≡ false → number_text known defines format t ≡ Some run
    → (number_part known n defines format t ≡ Ok (ungrouped (tree.plain run) None))
    × (lacking_in known.number t others ≡ others)
number_is known n (Some one) format t others run as_is is = absurd (none-some run is)
number_is known n None format None others run as_is is = absurd (none-some run is)
number_is known n None format (Some t) others run as_is is =
    let one = value_text known.fold format (value_of known.number known.at t) run as_is is in
    (one.1, none_lacks known.number known.at t others one.0)
