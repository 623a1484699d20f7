-- What the words of `not` ask. After the tool of that name in LLVM's tree, with its option `--crash`. Own rule: the words
-- from the first plain one on are the command's.
use Rattle.std.specs.Prelude.{⊤, ℕ, ◌<◌, nat_lt, true, List, [], ◌∷◌, codes, Option, Some, None, Result, Ok, Err}
use Rattle.opt_words.specs.Fault.{word_of}
use Rattle.opt_words.specs.Reading.{first, givens, times}
use Rattle.opt_words.specs.declared.fault.WordFault.{WordFault}
use Rattle.opt_words.specs.declared.row.Row.{Row}
use Rattle.opt_words.specs.declared.row.Form.TheVariants.{Flag}
use Rattle.opt_words.specs.declared.step.Given.{Given}
use Rattle.not_count.specs.declared.command.NotCommand.{NotCommand}
use Rattle.not_count.specs.declared.command.NoCommand.{NoCommand}
use Rattle.not_count.specs.declared.command.NoCommand.TheVariants.{FaultyWord, Missing}

-- the options of `not`: row 0 is `--crash`, so row 1 is that of plain words
abbrev pub rows : List Row
rows = record { name = codes "crash"; form = Flag } ∷ []

abbrev pub command_from : ℕ → Option Given → Result NotCommand NoCommand
command_from crashes (Some given) = Ok (record { crash = nat_lt 0 crashes; first = given.word })
command_from crashes None = Err Missing

abbrev pub command_of : Result (List Given) WordFault → Result NotCommand NoCommand
command_of (Ok all) = command_from (times 0 all) (first 1 all)
command_of (Err fault) = Err (FaultyWord fault)

abbrev pub command_in : List (List ℕ) → Result NotCommand NoCommand
command_in words = command_of (givens rows true words)

-- a faulty word is one of so many words
abbrev pub IsToldWord : ℕ → NoCommand → Type 0
IsToldWord count (FaultyWord fault) = word_of fault < count
IsToldWord count Missing = ⊤
