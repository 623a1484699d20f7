-- An answer in pieces. Own rule: the annotated input, in its frame, or a check file that was made, stands behind the pieces.
use Rattle.std.specs.Prelude.{ℕ, List, [], ◌++◌, Option, None, Some}
use Rattle.input_dump.specs.Dump.{framed}
use Rattle.filecheck_messages.specs.declared.telling.Rest.{Rest}
use Rattle.filecheck_messages.specs.declared.telling.Rest.TheVariants.{Nothing, Rows, File}
use Rattle.filecheck_messages.specs.declared.telling.Text.{Text}
use Rattle.tt_run.specs.declared.answer.Answer.{Answer}

-- an annotated input, if there is one
abbrev pub rows_in : Option (List ℕ) → List ℕ
rows_in None = []
rows_in (Some rows) = rows

-- what stands behind pieces
abbrev pub rest_text : Rest → List ℕ
rest_text Nothing = []
rest_text (Rows rows) = framed rows
rest_text (File file) = file.now

abbrev pub bytes_of : Text → List ℕ
bytes_of text = text.pieces ++ rest_text text.rest

-- the answer of two texts
abbrev pub answer_of : Text → Text → ℕ → Answer
answer_of out err status = record { out = bytes_of out; err = bytes_of err; status = status }
