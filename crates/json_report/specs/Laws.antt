-- Laws of JSON reports.
use Rattle.std.specs.Prelude.{◌≡◌, List, [], None, Ok}
use Rattle.json_report.specs.declared.line.Line.{Line}
use Rattle.json_report.specs.Reading.{report_of, twice_from}
use Rattle.json_report.specs.Report.{report_data}

-- Law: the report of tests whose paths differ is read as these tests.
abbrev pub ReportsAreRead : Type 0
ReportsAreRead = (lines : List Line) → twice_from 0 [] lines ≡ None → report_of (report_data lines) ≡ Ok lines
