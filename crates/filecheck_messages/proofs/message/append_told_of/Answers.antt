use Rattle.std.proofs.Common.{◌≡◌, ◌++◌, OnOk, subst}
use Rattle.filecheck_messages.specs.Message.{line_below, notes_text, place_text, wrong_text}
use Rattle.filecheck_messages.proofs.AppendLemmas.{added, added_three}
use Rattle.filecheck_messages.proofs.message.append_told_of.Goals as goal

pub returns : goal.returns
returns c =
    let start = c.args.text.now in
    let finding = c.args.finding.now in
    let before = c.append_line_below.new.text in
    added c.append_notes.result start before _ _ (notes_text finding.notes)
    (added_three start _ _ before (place_text finding.check) (wrong_text finding) (line_below finding.check) c.in_ok-append_place.ensures
    c.in_ok-append_wrong.ensures c.in_ok-append_line_below.ensures)
    (subst (λ notes. OnOk c.append_notes.result (c.append_notes.new.text ≡ before ++ notes_text notes)) c.as_slice.ensures c.append_notes.ensures)
