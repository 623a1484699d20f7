-- The report of a run: its header, and a part for each test.
-- After LLVM Command Guide, lit, '-q', '-v' and '-a', for what is shown. Own rules: the texts, and that a part knows only its
-- own test, its place and the number of tests, so that a report grows part by part. One in JSON has neither header nor parts.
use Rattle.std.specs.Prelude.{ℕ, ◌+◌, Bool, true, false, if◌then◌else◌, List, [], ◌∷◌, ◌++◌, codes, decimal}
use Rattle.lit_words.specs.declared.asked.Detail.{Detail}
use Rattle.lit_words.specs.declared.asked.Detail.TheVariants.{Quiet, Whole, Verbose, Plain, Json}
use Rattle.test_outcome.specs.Outcome as outcome
use Rattle.test_outcome.specs.Outcome.{is_failure}
use Rattle.test_outcome.specs.declared.outcome.Outcome.{Outcome}

-- what a report tells of a test: its name, its result and its transcript
pub record TestReport : Type 0 where
  pub name : List ℕ
  pub result : Outcome
  pub text : List ℕ

abbrev pub newline : List ℕ
newline = 10 ∷ []

-- the line between the parts of a report
unfoldable pub stars : List ℕ
stars = codes "********************"

-- ---- what is shown of a test

-- there is a line for it: with -q for a failure alone
abbrev pub has_line : Detail → Outcome → Bool
has_line Quiet result = is_failure result
has_line Whole result = true
has_line Verbose result = true
has_line Plain result = true
has_line Json result = false

-- its transcript is shown: with -a, and with -v for a failure
abbrev pub has_transcript : Detail → Outcome → Bool
has_transcript Quiet result = false
has_transcript Whole result = true
has_transcript Verbose result = is_failure result
has_transcript Plain result = false
has_transcript Json result = false

-- places count from 0 here, and from 1 in the text
abbrev pub line_of : ℕ → ℕ → TestReport → List ℕ
line_of tests place test =
    outcome.name_of test.result ++ codes ": " ++ test.name ++ codes " (" ++ decimal (place + 1) ++ codes " of "
    ++ decimal tests ++ codes ")" ++ newline

-- the line above a transcript
abbrev pub title_of : TestReport → List ℕ
title_of test =
    stars ++ codes " TEST '" ++ test.name ++ codes "' " ++ outcome.name_of test.result ++ codes " " ++ stars ++ newline

abbrev pub transcript_of : TestReport → List ℕ
transcript_of test = title_of test ++ test.text ++ stars ++ newline

-- ---- a report as it grows

-- the part of a test
abbrev pub part_of : Detail → ℕ → ℕ → TestReport → List ℕ
part_of detail tests place test =
    (if has_line detail test.result then line_of tests place test else [])
    ++ (if has_transcript detail test.result then transcript_of test else [])

abbrev pub header : Detail → ℕ → List ℕ
header Quiet tests = []
header Whole tests = codes "-- Testing: " ++ decimal tests ++ codes " tests --" ++ newline
header Verbose tests = codes "-- Testing: " ++ decimal tests ++ codes " tests --" ++ newline
header Plain tests = codes "-- Testing: " ++ decimal tests ++ codes " tests --" ++ newline
header Json tests = []

-- the parts of tests, from a place on
abbrev pub parts_from : Detail → ℕ → ℕ → List TestReport → List ℕ
parts_from detail tests place [] = []
parts_from detail tests place (test ∷ more) = part_of detail tests place test ++ parts_from detail tests (place + 1) more

-- the report as far as these tests
abbrev pub running : Detail → ℕ → List TestReport → List ℕ
running detail tests told = header detail tests ++ parts_from detail tests 0 told
