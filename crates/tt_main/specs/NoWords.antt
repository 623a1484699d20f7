-- What is told where the words of the command line couldn't be had.
-- Own rule: a word that isn't text is refused, and want of memory is told as such.
use Rattle.std.specs.Prelude.{◌≡◌, ℕ, List}
use Rattle.std.specs.declared.io.ErrorKind.{ErrorKind}
use Rattle.std.specs.declared.io.ErrorKind.TheVariants.{OutOfMemory}
use Rattle.tt_run.specs.Frame.{not_text, out_of_memory}
use Rattle.tt_run.specs.Run.{Answered, Stream, Told}

-- the status, and what the error stream took, by the tool's name and the kind of the error
abbrev pub NoWords : List ℕ → ErrorKind → ℕ → Stream → Type 0
NoWords name OutOfMemory status err = (status ≡ 4) × Told (out_of_memory name) err
NoWords name _ status err = Answered (not_text name) 2 status err
