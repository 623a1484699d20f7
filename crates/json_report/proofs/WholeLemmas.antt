-- The report of tests is read as these tests: entry by entry, and its counts are whole numbers that are written as they are.
use Rattle.std.proofs.Common.{◌≡◌, ℕ, ◌+◌, true, List, [], ◌∷◌, None, Some, Ok, ap, refl}
use Rattle.test_outcome.specs.Outcome.{name_of}
use Rattle.test_outcome.specs.declared.outcome.Outcome.{Outcome}
use Rattle.test_outcome.specs.declared.outcome.Outcome.TheVariants.{Pass, Flakypass, Fail, Xfail, Xpass, Unsupported, Unresolved}
use Rattle.std.proofs.lemmas.Slice.Eq.{bytes_eq-Decides}
use Rattle.std.specs.Str.{bytes_eq}
use Rattle.serde_json.specs.Data.{object}
use Rattle.serde_json.specs.Written.{compact_text}
use Rattle.json_report.specs.Reading.{before, line_in, lines_from, named_in, report_of, twice_from}
use Rattle.json_report.specs.Report.{counts_of, entries_of, entry_of, outcomes, report_data, results_of}
use Rattle.json_report.specs.declared.line.Line.{Line}
use Rattle.json_report.proofs.FloatLemmas.{counts_are_whole}

named : (outcome : Outcome) → named_in outcomes (name_of outcome) ≡ Some outcome
named Pass = refl
named Flakypass = refl
named Fail = refl
named Xfail = refl
named Xpass = refl
named Unsupported = refl
named Unresolved = refl

entry : (line : Line) → line_in (entry_of line) ≡ Some line
entry line = rw (named line.result) refl

entries : (place : ℕ) (lines : List Line) → lines_from place (entries_of lines) ≡ Ok lines
entries place [] = refl
entries place (line ∷ more) = rw (entry line) (ap (before line) (entries (place + 1) more))

same : (bytes : List ℕ) → bytes_eq bytes bytes ≡ true
same bytes = (bytes_eq-Decides bytes bytes).1 refl

pub reports_are_read : (lines : List Line) → twice_from 0 [] lines ≡ None → report_of (report_data lines) ≡ Ok lines
reports_are_read lines differ =
    rw (entries 0 lines, differ, counts_are_whole (results_of lines), same (compact_text (object (counts_of (results_of lines))))) refl
