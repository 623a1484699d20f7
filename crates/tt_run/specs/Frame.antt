-- What every tool says in the same words, under its own name.
-- Own rule: an error is told on a line that begins with the tool's name.
use Rattle.std.specs.Prelude.{ℕ, List, [], ◌∷◌, ◌++◌, codes}

-- the end of a line
abbrev pub newline : List ℕ
newline = 10 ∷ []

-- an error of the tool of a name
abbrev pub error_text : List ℕ → List ℕ → List ℕ
error_text name what = name ++ (codes ": error: " ++ what ++ newline)

-- a stream took no more
abbrev pub cannot_write : List ℕ → List ℕ
cannot_write name = error_text name (codes "cannot write")

-- there was no memory
abbrev pub out_of_memory : List ℕ → List ℕ
out_of_memory name = error_text name (codes "out of memory")

-- a word of the command line is no text
abbrev pub not_text : List ℕ → List ℕ
not_text name = error_text name (codes "a word isn't text")
