-- Laws of reports.
use Rattle.std.specs.Prelude.{◌≡◌, ℕ, ◌+◌, List, [], ◌∷◌, ◌++◌, length}
use Rattle.lit_words.specs.declared.asked.Detail.{Detail}
use Rattle.test_outcome.specs.declared.outcome.Outcome.TheVariants.{Pass, Flakypass, Fail, Xfail, Xpass, Unsupported, Unresolved}
use Rattle.lit_report.specs.Ending.{count_of}
use Rattle.lit_report.specs.Report.{TestReport, part_of, running}

-- a report grows by the part of one more test
abbrev pub GrowsByParts : Type 0
GrowsByParts =
    (detail : Detail) (tests : ℕ) (told : List TestReport) (test : TestReport)
    → running detail tests (told ++ test ∷ []) ≡ running detail tests told ++ part_of detail tests (length told) test

-- each test is counted once
abbrev pub CountsEach : Type 0
CountsEach =
    (told : List TestReport)
    → count_of Unsupported told + count_of Pass told + count_of Flakypass told + count_of Xfail told
    + count_of Unresolved told + count_of Fail told + count_of Xpass told ≡ length told
