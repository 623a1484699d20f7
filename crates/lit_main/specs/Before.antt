-- What is told before lit's top call, and for which words no line of progress is shown. Own.
use Rattle.std.specs.Prelude.{◌≡◌, ◌⊎◌, ℕ, Bool, ◌||◌, List, codes}
use Rattle.std.specs.Str.{bytes_eq}
use Rattle.tt_run.specs.Frame.{error_text, out_of_memory}
use Rattle.tt_run.specs.Run.{Answered, Stream, Told}

-- there is no path to join words to: the want of memory is told, with 4; or that the tree cannot be read, with 3
abbrev pub NoBase : List ℕ → ℕ → Stream → Type 0
NoBase name status err =
    ((status ≡ 4) × Told (out_of_memory name) err) ⊎ Answered (error_text name (codes "cannot read the tree")) 3 status err

-- a word that asks for failures alone, or for a report in JSON
abbrev pub hushes : List ℕ → Bool
hushes word = bytes_eq word (codes "-q") || bytes_eq word (codes "--json") || bytes_eq word (codes "-json")
