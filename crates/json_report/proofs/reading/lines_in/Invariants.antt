use Rattle.std.proofs.Common.{◌≡◌, drop}
use Rattle.serde_json.specs.View.{items_view}
use Rattle.json_report.specs.Reading.{lines_from}
use Rattle.json_report.proofs.LineLemmas.{with_front}
use Rattle.json_report.proofs.reading.lines_in.Given as goal

abbrev pub invariant-loop-place : goal.invariant-loop-place
invariant-loop-place l =
    with_front l.lines (lines_from l.place (items_view (drop l.place l.entries))) ≡ lines_from 0 (items_view l.entries)
