-- What a report in JSON tells of trials, and of which tests it can tell. Own rule: names and paths are UTF-8, as JSON has it.
use Rattle.std.specs.Prelude.{ℕ, ◌&&◌, Bool, List, map}
use Rattle.std.specs.Str.{is_utf8}
use Rattle.json_report.specs.Report.{report_text}
use Rattle.json_report.specs.declared.line.Line.{Line}
use Rattle.lit_test.specs.declared.trial.Trial.{Trial}
use Rattle.tt_outside.specs.declared.test_data.Test.{Test}

-- a test whose name and path are text
abbrev pub is_text : Test → Bool
is_text test = is_utf8 test.name && is_utf8 test.path

abbrev pub test_of : Trial → Test
test_of trial = trial.test

abbrev pub line_of : Trial → Line
line_of trial = record { name = trial.test.name; path = trial.test.path; result = trial.result }

-- the report of trials
abbrev pub json_text : List Trial → List ℕ
json_text trials = report_text (map line_of trials)
