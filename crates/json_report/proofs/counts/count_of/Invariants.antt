use Rattle.std.proofs.Common.{◌≡◌, ◌+◌, ◌≤◌, drop}
use Rattle.json_report.specs.Report.{count_of}
use Rattle.json_report.proofs.counts.count_of.Given as goal

abbrev pub invariant-loop-result : goal.invariant-loop-result
invariant-loop-result l = record {
  counted : l.count + count_of (drop l.result-index l.results) l.outcome ≡ count_of l.results l.outcome;
  within : l.count ≤ l.result-index;
}
