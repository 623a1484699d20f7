-- Words without the `not`s in front of them. After the tool `not` in LLVM's tree, which may stand before itself. Own rule: a `not` gives
-- way to its command where it accepts its words and the input.
use Rattle.std.specs.Prelude.{ℕ, zero, suc, ◌+◌, ◌^◌, Bool, ◌&&◌, ◌||◌, nat_le, if◌then◌else◌, List, [], ◌∷◌, length, codes, slice_index_or, Option, Some, None, Result, Ok, Err}
use Rattle.std.specs.Str.{bytes_eq}
use Rattle.not_count.specs.Command.{command_in}
use Rattle.not_count.specs.declared.command.NotCommand.{NotCommand}
use Rattle.not_count.specs.declared.command.NoCommand.{NoCommand}
use Rattle.inner_answers.specs.declared.tool.Tool.{Tool}
use Rattle.inner_answers.specs.declared.tool.Tool.TheVariants.{FileCheck, Count, Not}

-- the tools that are answered inside, by their names
abbrev pub tool_of : List ℕ → Option Tool
tool_of name =
    if bytes_eq name (codes "FileCheck") || bytes_eq name (codes "filecheck") then Some FileCheck
    else if bytes_eq name (codes "count") then Some Count
    else if bytes_eq name (codes "not") then Some Not
    else None

-- the tool that words begin with
abbrev pub tool_in : List (List ℕ) → Option Tool
tool_in [] = None
tool_in (name ∷ words) = tool_of name

-- a `not`: the name of its program, and whether that is to crash
pub record Level : Type 0 where
  pub name : List ℕ
  pub crash : Bool

-- the `not` of a command in these words
abbrev pub level_in : List (List ℕ) → NotCommand → Level
level_in words command = record { name = slice_index_or words command.first []; crash = command.crash }

-- words as they are peeled: the `not`s, from the outermost, and what is below them
pub record Peeled : Type 0 where
  pub levels : List Level
  pub core : List (List ℕ)

abbrev pub beneath : Level → Peeled → Peeled
beneath level peeled = record { levels = level ∷ peeled.levels; core = peeled.core }

abbrev pub accepted : Result NotCommand NoCommand → Option NotCommand
accepted (Ok command) = Some command
accepted (Err refusal) = None

-- `not` takes an input of so many bytes
abbrev pub is_short : List ℕ → Bool
is_short input = nat_le (length input) (2 ^ 26)

-- the command below the tool of a name, with these words behind it
abbrev pub command_below : Bool → List ℕ → List (List ℕ) → Option NotCommand
command_below short name words = if short && bytes_eq name (codes "not") then accepted (command_in words) else None

-- a command among the words behind so many, by its index among all
abbrev pub moved : ℕ → NotCommand → NotCommand
moved at command = record { crash = command.crash; first = at + command.first }

abbrev pub placed : ℕ → Option NotCommand → Option NotCommand
placed at (Some command) = Some (moved at command)
placed at None = None

-- words are peeled behind so many of them, with an input that may be short
unfoldable pub peel : Bool → ℕ → List (List ℕ) → Peeled
peel short skip [] = record { levels = []; core = [] }
peel short (suc skip) (name ∷ words) = peel short skip words
peel short zero (name ∷ words) = elim (command_below short name words) [
  | Some command ↦ beneath (level_in words command) (peel short command.first words)
  | None ↦ record { levels = []; core = name ∷ words }
]
