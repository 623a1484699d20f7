use Rattle.std.proofs.Common.{◌≡◌, ◌++◌, drop}
use Rattle.filecheck_messages.specs.Message.{told}
use Rattle.filecheck_messages.proofs.message.append_told.Given as goal

abbrev pub invariant-loop-finding : goal.invariant-loop-finding
invariant-loop-finding l = l.text ++ told (drop l.finding-index l.findings) ≡ l.fn.text ++ told l.findings
