use Rattle.std.proofs.Common.{◌≡◌, ◌++◌, drop, map}
use Rattle.json_report.specs.Report.{results_of}
use Rattle.lit_json.specs.Trials.{line_of}
use Rattle.lit_json.proofs.written.results_of.Given as goal

abbrev pub invariant-loop-trial : goal.invariant-loop-trial
invariant-loop-trial l =
    l.results.items ++ results_of (map line_of (drop l.trial-index l.trials)) ≡ results_of (map line_of l.trials)
