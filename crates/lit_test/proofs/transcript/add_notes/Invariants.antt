use Rattle.std.proofs.Common.{◌≡◌, ◌++◌, drop}
use Rattle.lit_test.specs.Transcript.{notes_text}
use Rattle.lit_test.proofs.transcript.add_notes.Given as goal

abbrev pub invariant-loop-note : goal.invariant-loop-note
invariant-loop-note l = l.text ++ notes_text (drop l.note-index l.notes) ≡ l.fn.text ++ notes_text l.notes
