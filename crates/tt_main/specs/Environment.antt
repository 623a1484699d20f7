-- The words that a variable of the environment puts before those of the command line.
-- After LLVM Command Guide, FileCheck, FILECHECK_OPTS, and lit, LIT_OPTS. Own rule: words stand between blanks and newlines, and
-- there are no quotes.
use Rattle.std.specs.Prelude.{ℕ, Bool, true, false, ◌||◌, ◌==◌, filter, List, [], ◌∷◌}
use Rattle.std.specs.List.{slice_split}

-- whether a byte stands between words
abbrev pub is_between : ℕ → Bool
is_between byte = byte == 32 || byte == 9 || byte == 10 || byte == 13

-- whether a text has a byte
abbrev pub is_word : List ℕ → Bool
is_word [] = false
is_word (byte ∷ rest) = true

-- the words of a variable's value
abbrev pub words_in : List ℕ → List (List ℕ)
words_in text = filter is_word (slice_split is_between text)
