use Rattle.std.proofs.Common.{◌≡◌, drop}
use Rattle.json_report.specs.Reading.{named_in}
use Rattle.json_report.specs.Report.{outcomes}
use Rattle.json_report.proofs.reading.outcome_named.Given as goal

abbrev pub invariant-loop-outcome : goal.invariant-loop-outcome
invariant-loop-outcome l = named_in (drop l.outcome-index outcomes) l.name ≡ named_in outcomes l.name
