-- The command of a request to run a program.
-- Own rule: its words, its directory and its environment are those of the request; of several pairs of one name the last counts.
use Rattle.std.specs.Prelude.{◌≡◌, ℕ, false, if◌then◌else◌, List, [], ◌∷◌, Option, Some, None}
use Rattle.std.specs.Process.{clears_env, command_args, command_dir, command_program, command_var}
use Rattle.std.specs.Str.{bytes_eq}
use Rattle.std.specs.declared.process.Command.{Command}
use Rattle.tt_outside.specs.declared.request.Pair.{Pair}

-- what pairs say of a name, of which something was said before
abbrev pub said_by : List Pair → List ℕ → Option (Option (List ℕ)) → Option (Option (List ℕ))
said_by [] name before = before
said_by (pair ∷ pairs) name before =
    said_by pairs name (if bytes_eq pair.name name then Some (Some pair.value) else before)

-- what a command says of each name behind the pairs that were added to it
abbrev pub SaysMore : {A : Type 0} → List Pair → Command A → Command A → Type 0
SaysMore pairs old new = (name : List ℕ) → command_var new name ≡ said_by pairs name (command_var old name)

pub record IsCommand {A : Type 0} (command : Command A) (words : List (List ℕ)) (dir : List ℕ) (env : List Pair) : Type 0 where
  pub runs : words ≡ command_program command ∷ command_args command
  pub stands : command_dir command ≡ Some dir
  pub says : (name : List ℕ) → command_var command name ≡ said_by env name None
  pub inherits : clears_env command ≡ false
