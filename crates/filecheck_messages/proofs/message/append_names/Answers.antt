use Rattle.filecheck_messages.proofs.AppendLemmas.{added}
use Rattle.filecheck_messages.proofs.message.append_names.Goals as goal

pub returns : goal.returns
returns c = added c.append_listed.result c.args.text.now _ _ _ _ c.in_ok-append.ensures c.append_listed.ensures
