use Rattle.filecheck_messages.proofs.AppendLemmas.{added, added_both}
use Rattle.filecheck_messages.proofs.message.append_named.Goals as goal

pub returns : goal.returns
returns c =
    added c.append-2.result c.args.text.now _ _ _ _
    (added_both c.args.text.now _ _ _ _ c.in_ok-append.ensures c.in_ok-append_about.ensures) c.append-2.ensures
