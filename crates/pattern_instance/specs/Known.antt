-- What is known where a pattern is sought.
-- After LLVM Command Guide, FileCheck, 'FileCheck Pseudo Numeric Variables' and --ignore-case.
use Rattle.std.specs.Prelude.{ℕ, ℤ, Bool, Option, List}
use Rattle.std.specs.FinMap.{FinMap}
use Rattle.num_base.specs.Names.{name_cmp}
use Rattle.pattern_vars.specs.Vars.{number_of, text_of}
use Rattle.pattern_vars.specs.declared.vars.Held.{Held}
use Rattle.pattern_instance.specs.declared.known.Known as held

-- the texts and numbers of variables, the directive's line, and whether letters match in either case
pub record Known : Type 0 where
  pub text : List ℕ → Option (List ℕ)
  pub number : List ℕ → Option ℤ
  pub at : ℕ
  pub fold : Bool

-- what these variables tell
abbrev pub known_of : FinMap name_cmp Held → ℕ → Bool → Known
known_of vars at fold = record { text = text_of vars; number = number_of vars; at = at; fold = fold }

-- the same of the code's value
abbrev pub known_in : held.Known → Known
known_in known = known_of known.vars.now known.line known.fold
