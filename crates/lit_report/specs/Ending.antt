-- The end of a report: the names of the tests that failed, and how many tests had each result.
-- After LLVM Command Guide, lit, 'TEST STATUS RESULTS', for what fails a run. Own rules: the texts, their order, and that a
-- result that no test had is left out. The end of a report in JSON is none of this: `lit_json` has it.
use Rattle.std.specs.Prelude.{ℕ, ◌==◌, if◌then◌else◌, List, [], ◌∷◌, ◌++◌, codes, decimal, length}
use Rattle.std.specs.List.{filter, flat_map, list_any}
use Rattle.lit_words.specs.declared.asked.Detail.{Detail}
use Rattle.lit_words.specs.declared.asked.Detail.TheVariants.{Quiet, Whole, Verbose, Plain, Json}
use Rattle.test_outcome.specs.Outcome.{is_failure, is_same, label_of}
use Rattle.test_outcome.specs.declared.outcome.Outcome.{Outcome}
use Rattle.test_outcome.specs.declared.outcome.Outcome.TheVariants.{Pass, Flakypass, Fail, Xfail, Xpass, Unsupported, Unresolved}
use Rattle.lit_report.specs.Report.{TestReport, newline, running, stars}

-- the tests of a result, in their order
abbrev pub those : Outcome → List TestReport → List TestReport
those result told = filter (λ test. is_same test.result result) told

-- how many tests have a result
abbrev pub count_of : Outcome → List TestReport → ℕ
count_of result told = length (those result told)

-- ---- names

abbrev pub name_line : TestReport → List ℕ
name_line test = codes "  " ++ test.name ++ newline

abbrev pub names_of : Outcome → List TestReport → List ℕ
names_of result told = flat_map name_line (those result told)

-- the names of the tests of a result under its title, and an empty line
unfoldable pub group_of : Outcome → List TestReport → List ℕ
group_of result told =
    if count_of result told == 0 then []
    else label_of result ++ codes " Tests (" ++ decimal (count_of result told) ++ codes "):" ++ newline
    ++ names_of result told ++ newline

-- the line above the names of the tests that failed
abbrev pub rule_of : List TestReport → List ℕ
rule_of told = if list_any (λ test. is_failure test.result) told then stars ++ newline else []

-- the tests that failed, below it
unfoldable pub groups : List TestReport → List ℕ
groups told = rule_of told ++ group_of Unresolved told ++ group_of Fail told ++ group_of Xpass told

-- ---- numbers

unfoldable pub count_line : Outcome → List TestReport → List ℕ
count_line result told =
    if count_of result told == 0 then []
    else codes "  " ++ label_of result ++ codes ": " ++ decimal (count_of result told) ++ newline

unfoldable pub count_lines : List TestReport → List ℕ
count_lines told =
    count_line Unsupported told ++ count_line Pass told ++ count_line Flakypass told ++ count_line Xfail told
    ++ count_line Unresolved told ++ count_line Fail told ++ count_line Xpass told

-- how many tests had each result, unless failures alone are shown
abbrev pub counts : Detail → ℕ → List TestReport → List ℕ
counts Quiet tests told = []
counts Whole tests told = codes "Testing done: " ++ decimal tests ++ codes " tests" ++ newline ++ count_lines told
counts Verbose tests told = codes "Testing done: " ++ decimal tests ++ codes " tests" ++ newline ++ count_lines told
counts Plain tests told = codes "Testing done: " ++ decimal tests ++ codes " tests" ++ newline ++ count_lines told
counts Json tests told = []

-- ---- a whole report

abbrev pub end_of : Detail → ℕ → List TestReport → List ℕ
end_of detail tests told = groups told ++ counts detail tests told

abbrev pub report_of : Detail → ℕ → List TestReport → List ℕ
report_of detail tests told = running detail tests told ++ end_of detail tests told

-- whether a test fails the run
abbrev pub status_of : List TestReport → ℕ
status_of told = if list_any (λ test. is_failure test.result) told then 1 else 0
