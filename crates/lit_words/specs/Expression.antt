-- The expressions of --select and --drop. Own rule: they are extended regular expressions, after POSIX.1 XBD 9.4, whose
-- letters match in their own case.
use Rattle.std.specs.Prelude.{ℕ, false, List, Option, Some, None, Result, Ok, Err}
use Rattle.ere_tree.specs.Grammar.{reading}
use Rattle.ere_tree.specs.Tree.{Tree}
use Rattle.ere_tree.specs.declared.fault.EreFault.{EreFault}
use Rattle.opt_words.specs.Step.{value_of}
use Rattle.opt_words.specs.declared.step.Given.{Given}
use Rattle.lit_words.specs.Fault.{◌>>=◌}
use Rattle.lit_words.specs.declared.fault.LitWordsFault.{LitWordsFault}
use Rattle.lit_words.specs.declared.fault.LitWordsFault.TheVariants.{BadRegex}

-- the tree of a text, or the refusal of the text
abbrev pub as_tree : List ℕ → Result Tree EreFault → Result Tree LitWordsFault
as_tree value (Ok tree) = Ok tree
as_tree value (Err fault) = Err (BadRegex value)

abbrev pub tree_of : List ℕ → Result Tree LitWordsFault
tree_of value = as_tree value (reading false value)

-- the expression that is given, if there is one
abbrev pub expression_of : List (List ℕ) → Option Given → Result (Option Tree) LitWordsFault
expression_of words None = Ok None
expression_of words (Some given) = do
  tree ← tree_of (value_of words given)
  Ok (Some tree)
