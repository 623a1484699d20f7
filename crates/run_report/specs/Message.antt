-- What is told of a run that stops. Own texts.
use Rattle.std.specs.Prelude.{ℕ, List, codes}
use Rattle.tt_run.specs.Frame.{error_text}

-- a message, with the program's name before it
abbrev pub unplaced : List ℕ → List ℕ
unplaced text = error_text (codes "lit") text

abbrev pub too_much : List ℕ
too_much = unplaced (codes "kept output passes 2147483648 bytes")
