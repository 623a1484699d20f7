-- The RUN lines of a test, as they are understood.
-- After LLVM Testing Infrastructure Guide, 'Substitutions': %s is the test's file, %S and %p its directory, %t and %T what
-- its temporary files are named after and their directory. Own rules: a suite's replacements come first, and a line that isn't
-- understood is found before any command runs.
use Rattle.std.specs.Prelude.{codes, ℕ, ◌≤◌, List, [], ◌∷◌, ◌++◌, length, Result, Ok, Err, Option, Some, None}
use Rattle.tt_outside.specs.declared.request.Pair.{Pair}
use Rattle.tt_outside.specs.declared.test_data.Test.{Test}
use Rattle.lit_directives.specs.declared.script.RunLine.{RunLine}
use Rattle.mini_shell.specs.declared.fault.ShellFault.{ShellFault}
use Rattle.mini_shell.specs.declared.line.Line.{Line}
use Rattle.mini_shell.specs.Value.{line_in}
use Rattle.substs.specs.Expansion.{expansion}
use Rattle.test_plan.specs.declared.cause.Cause.TheVariants.{Shell, TooLong}
use Rattle.test_plan.specs.declared.runs.ReadRun.{ReadRun}
use Rattle.test_plan.specs.declared.runs.ReadRun.TheVariants as one
use Rattle.test_plan.specs.declared.runs.ReadRuns.{ReadRuns}
use Rattle.test_plan.specs.declared.runs.ReadRuns.TheVariants.{Lines, Refused}

-- a test's own replacements
abbrev pub own_pairs : Test → List Pair
own_pairs test =
    record { name = codes "%s"; value = test.path } ∷ record { name = codes "%S"; value = test.source_dir }
    ∷ record { name = codes "%p"; value = test.source_dir } ∷ record { name = codes "%t"; value = test.temp }
    ∷ record { name = codes "%T"; value = test.temp_dir } ∷ []

-- all of them: its suite's, and its own
abbrev pub pairs_of : Test → List Pair
pairs_of test = test.substitutions ++ own_pairs test

-- what a RUN line becomes
unfoldable pub expanded : Test → RunLine → Option (List ℕ)
expanded test run = expansion (pairs_of test) (length test.substitutions) run.line run.text

-- a line with its text, by what that is read as
abbrev pub read_as : RunLine → Result Line ShellFault → ReadRun
read_as run (Ok line) = one.Line run line
read_as run (Err fault) = one.Refused (Shell fault.kind)

abbrev pub read_text : ℕ → Option (List ℕ) → ReadRun
read_text line None = one.Refused TooLong
read_text line (Some text) = read_as (record { line = line; text = text }) (line_in text)

-- a RUN line, understood
abbrev pub read_run : Test → RunLine → ReadRun
read_run test run = read_text run.line (expanded test run)

-- lines, and others behind them
abbrev pub onto : List RunLine → List Line → ReadRuns → ReadRuns
onto runs lines (Lines more others) = Lines (runs ++ more) (lines ++ others)
onto runs lines (Refused cause) = Refused cause

abbrev pub with_more : ReadRun → ReadRuns → ReadRuns
with_more (one.Line run line) rest = onto (run ∷ []) (line ∷ []) rest
with_more (one.Refused cause) rest = Refused cause

-- RUN lines with their texts as they run, or why the first of them that isn't understood is refused
unfoldable pub read_runs : Test → List RunLine → ReadRuns
read_runs test [] = Lines [] []
read_runs test (run ∷ more) = with_more (read_run test run) (read_runs test more)

-- there are at most so many lines
abbrev pub HasAtMost : ℕ → ReadRuns → Type 0
HasAtMost most (Lines runs lines) = length lines ≤ most
HasAtMost most (Refused cause) = Unit {0}
