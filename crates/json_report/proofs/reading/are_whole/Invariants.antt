use Rattle.std.proofs.Common.{◌≡◌}
use Rattle.json_report.specs.Reading.{are_whole}
use Rattle.serde_json.specs.View.{members_view}
use Rattle.json_report.proofs.reading.are_whole.Given as goal

abbrev pub invariant-loop-value : goal.invariant-loop-value
invariant-loop-value l =
    are_whole (members_view l.value-iterator) ≡ are_whole (members_view l.members.entries)
