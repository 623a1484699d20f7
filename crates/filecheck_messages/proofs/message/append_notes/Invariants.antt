use Rattle.std.proofs.Common.{◌≡◌, ◌++◌, drop}
use Rattle.filecheck_messages.specs.Message.{notes_text}
use Rattle.filecheck_messages.proofs.message.append_notes.Given as goal

abbrev pub invariant-loop-note : goal.invariant-loop-note
invariant-loop-note l = l.text ++ notes_text (drop l.note-index l.notes) ≡ l.fn.text ++ notes_text l.notes
