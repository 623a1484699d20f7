use Rattle.std.proofs.Common.{◌≡◌, ◌++◌, drop}
use Rattle.std.specs.List.{flat_map}
use Rattle.filecheck_messages.specs.Message.{behind_comma}
use Rattle.filecheck_messages.proofs.message.append_later.Given as goal

abbrev pub invariant-loop-name : goal.invariant-loop-name
invariant-loop-name l =
    l.text ++ flat_map behind_comma (drop l.name-index l.names) ≡ l.fn.text ++ flat_map behind_comma l.names
