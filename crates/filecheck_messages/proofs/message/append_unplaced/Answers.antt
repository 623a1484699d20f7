use Rattle.filecheck_messages.proofs.AppendLemmas.{added, added_both}
use Rattle.filecheck_messages.proofs.message.append_unplaced.Goals as goal

pub returns : goal.returns
returns c =
    added c.append-3.result c.args.text.now _ _ _ _
    (added_both c.args.text.now _ _ _ _ c.in_ok-append.ensures c.in_ok-append-2.ensures) c.append-3.ensures
