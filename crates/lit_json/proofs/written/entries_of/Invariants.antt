use Rattle.std.proofs.Common.{◌≡◌, ◌++◌, true, drop, map}
use Rattle.std.specs.List.{list_all}
use Rattle.json_report.specs.Report.{entry_of}
use Rattle.lit_json.specs.Trials.{is_text, line_of, test_of}
use Rattle.lit_json.proofs.written.entries_of.Given as goal
use Rattle.serde_json.specs.View.{view}

abbrev pub invariant-loop-trial : goal.invariant-loop-trial
invariant-loop-trial l = record {
  made : map view l.entries.items ++ map entry_of (map line_of (drop l.trial-index l.trials)) ≡ map entry_of (map line_of l.trials);
  text : list_all is_text (map test_of (drop l.trial-index l.trials)) ≡ true;
}
