use Rattle.std.proofs.Common.{◌≡◌, ◌++◌, drop}
use Rattle.std.specs.List.{flat_map}
use Rattle.report_changes.specs.Answer.{change_line}
use Rattle.report_changes.proofs.answer.changes_text.Given as goal

abbrev pub invariant-loop-change : goal.invariant-loop-change
invariant-loop-change l = l.text ++ flat_map change_line (drop l.change-index l.changes) ≡ flat_map change_line l.changes
