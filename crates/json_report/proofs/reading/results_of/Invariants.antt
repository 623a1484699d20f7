use Rattle.std.proofs.Common.{◌≡◌, ◌++◌, drop}
use Rattle.json_report.specs.Report.{results_of}
use Rattle.json_report.proofs.reading.results_of.Given as goal

abbrev pub invariant-loop-line : goal.invariant-loop-line
invariant-loop-line l = l.results.items ++ results_of (drop l.line-index l.lines) ≡ results_of l.lines
