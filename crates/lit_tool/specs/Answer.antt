-- What is written where nothing is run: the names of tests, or why there are none.
-- After LLVM Command Guide, lit, --show-tests: the names of the tests that would run. Own rules: the texts, and the
-- statuses 2 for a refusal and 3 for a fault of the tree.
use Rattle.std.specs.Prelude.{◌≡◌, ◌⊎◌, ℕ, List, [], ◌++◌, codes, Result, Ok, Err}
use Rattle.std.specs.List.{flat_map}
use Rattle.lit_dirs.specs.declared.fault.DiscoverFault.TheVariants.{TreeFault}
use Rattle.lit_tool.specs.Message.{text_of}
use Rattle.lit_tool.specs.declared.stop.LitStop.{LitStop}
use Rattle.lit_tool.specs.declared.stop.LitStop.TheVariants.{Discovery}
use Rattle.run_report.specs.Message.{unplaced}
use Rattle.run_report.specs.Run.{Rests}
use Rattle.tt_outside.specs.declared.test_data.Test.{Test}
use Rattle.tt_run.specs.Frame.{cannot_write, newline, out_of_memory}
use Rattle.tt_run.specs.Run.{Answered, Stream, Told, Written}
use Rattle.tt_run.specs.declared.answer.Answer.{Answer}

-- ---- want of memory

-- memory was wanting before a byte of the report
abbrev pub LacksMemory : ℕ → Stream → Stream → Type 0
LacksMemory status out err = (status ≡ 4) × Rests out × Told (out_of_memory (codes "lit")) err

-- ---- names

-- a name stands on a line, behind two spaces
abbrev pub name_line : List ℕ → List ℕ
name_line name = codes "  " ++ name ++ newline

abbrev pub line_of : Test → List ℕ
line_of test = name_line test.name

abbrev pub shown_text : List Test → List ℕ
shown_text tests = (codes "-- Available Tests --" ++ newline) ++ flat_map line_of tests

-- the same, of the names alone
abbrev pub shown_names : List (List ℕ) → List ℕ
shown_names names = (codes "-- Available Tests --" ++ newline) ++ flat_map name_line names

-- an answer of status 0 that writes a text
abbrev pub showing : List ℕ → Answer
showing text = record { out = text; err = []; status = 0 }

-- ---- a stop

abbrev pub status_of : LitStop → ℕ
status_of (Discovery TreeFault) = 3
status_of stop = 2

-- it is told, unless memory is wanting
abbrev pub TellsStop : LitStop → ℕ → Stream → Type 0
TellsStop stop status err =
    ((status ≡ 4) × Told (out_of_memory (codes "lit")) err) ⊎ Answered (unplaced (text_of stop)) (status_of stop) status err

-- ---- names, or a stop

-- these names are written, unless memory is wanting before a byte of them
abbrev pub WritesNames : List (List ℕ) → ℕ → Stream → Stream → Type 0
WritesNames names status out err =
    LacksMemory status out err ⊎ Written (cannot_write (codes "lit")) (showing (shown_names names)) status out err

-- the names of these tests are written, or why there are none
abbrev pub TellsNames : Result (List Test) LitStop → ℕ → Stream → Stream → Type 0
TellsNames (Ok tests) status out err = Written (cannot_write (codes "lit")) (showing (shown_text tests)) status out err
TellsNames (Err stop) status out err = Rests out × TellsStop stop status err
