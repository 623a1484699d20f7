use Rattle.std.proofs.Common.{◌≡◌, drop}
use Rattle.serde_json.specs.View.{members_view}
use Rattle.json_report.specs.Report.{counts_of, outcomes, with_counts}
use Rattle.json_report.proofs.counts.counts_of.Given as goal

abbrev pub invariant-loop-outcome : goal.invariant-loop-outcome
invariant-loop-outcome l =
    with_counts l.results (drop l.outcome-index outcomes) (members_view l.counts.entries) ≡ counts_of l.results
