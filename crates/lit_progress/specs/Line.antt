-- The line of progress. Own rule: its numbers, over what stood on the terminal's line before.
use Rattle.std.specs.Prelude.{ℕ, List, ◌∷◌, [], ◌++◌, codes, decimal}

-- to the begin of the line
abbrev pub to_begin : List ℕ
to_begin = 13 ∷ []

-- what clears a terminal's line from the cursor on: ESC [ K
abbrev pub clear_behind : List ℕ
clear_behind = 27 ∷ codes "[K"

unfoldable pub line_text : ℕ → ℕ → List ℕ
line_text begun failed =
    to_begin ++ codes "lit: begun " ++ decimal begun ++ codes ", failed " ++ decimal failed ++ clear_behind
