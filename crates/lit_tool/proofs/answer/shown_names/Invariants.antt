use Rattle.std.proofs.Common.{◌≡◌, ◌++◌, drop}
use Rattle.std.specs.List.{flat_map}
use Rattle.lit_tool.specs.Answer.{name_line, shown_names}
use Rattle.lit_tool.proofs.answer.shown_names.Given as goal

abbrev pub invariant-loop-name : goal.invariant-loop-name
invariant-loop-name l = l.text ++ flat_map name_line (drop l.name-index l.names) ≡ shown_names l.names
