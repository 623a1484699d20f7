-- A run of tests with its report, by where it stopped.
-- After LLVM Command Guide, lit, for the report and its status. Own rules: the header goes before a hand is hired, a fault of the
-- report is told once on the other stream, and hands are dismissed however the run ends.
use Rattle.std.specs.Prelude.{◌≡◌, ◌≢◌, ◌⊎◌, ℕ, ◌+◌, ◌<◌, ◌≤◌, Bool, true, List, [], ◌++◌, codes, length, map, Option, None, Some, Ok, Err}
use Rattle.std.specs.List.{list_all, sum_by}
use Rattle.std.specs.Io.KnownBytes.{Appends}
use Rattle.tt_outside.specs.Faults.{Rose}
use Rattle.tt_outside.specs.Gave.{Gave}
use Rattle.tt_outside.specs.declared.test_data.Test.{Test}
use Rattle.tt_run.specs.Frame.{cannot_write, out_of_memory}
use Rattle.tt_run.specs.Run.{Answered, Crew, Stream, Taken, Told}
use Rattle.lit_words.specs.declared.asked.Detail.{Detail}
use Rattle.lit_words.specs.declared.asked.Detail.TheVariants.{Quiet, Whole, Verbose, Plain, Json}
use Rattle.lit_test.specs.declared.trial.Trial.{Trial}
use Rattle.lit_report.specs.Ending.{end_of, status_of}
use Rattle.lit_report.specs.Report.{header, part_of, parts_from, running}
use Rattle.lit_desk.specs.Desk.{MAX_KEPT}
use Rattle.lit_json.specs.Trials.{is_text, json_text}
use Rattle.lit_round.specs.Trials.{AreTrials}
use Rattle.lit_pool.specs.Crew.{LeavesHands}
use Rattle.lit_pool.specs.Pool.{kept_of, returned, told_of}
use Rattle.lit_pool.specs.declared.stop.PoolStop.{PoolStop}
use Rattle.lit_pool.specs.declared.stop.PoolWhy.{PoolWhy}
use Rattle.lit_pool.specs.declared.stop.PoolWhy.TheVariants.{SinkFault, TooMuch, NoMemory}
use Rattle.run_report.specs.Message.{too_much}
use Rattle.run_report.specs.declared.ending.LitEnd.{LitEnd}

-- ---- what a run is given

-- a crew, the stream of the report and that of messages
pub record Around : Type 1 where
  pub hired : Crew
  pub out : Stream
  pub err : Stream

abbrev pub around : Crew → Stream → Stream → Around
around hired out err = record { hired = hired; out = out; err = err }

-- ---- what it leaves

-- no hand was hired and dismissed
abbrev pub NoHand : Crew → Type 0
NoHand hired = hired.new ≡ hired.old

-- a stream was left alone
abbrev pub Rests : Stream → Type 0
Rests s = (s.new ≡ s.old) × (s.now ≡ s.before)

-- bytes were written, and behind them a proper front of others, up to a fault that was counted, for want of room
pub record StopsBehind (first second : List ℕ) (s : Stream) : Type 0 where
  pub front : List ℕ
  pub rest : List ℕ
  pub whole : front ++ rest ≡ second
  pub some : rest ≢ []
  pub wrote : Appends s.old s.new (first ++ front)
  pub rose : Rose s.before s.now
  pub short : s.room < length (first ++ second)

-- a run of which no test was reported
abbrev pub untried : ℕ → LitEnd
untried status = record { status = status; trials = []; other = None }

-- how many bytes trials keep
abbrev pub kept_by : List Trial → ℕ
kept_by trials = sum_by (λ kept. kept.kept) (map kept_of trials)

-- ---- a report in JSON

-- a report of this detail can tell of all tests: one in JSON needs names and paths that are text
abbrev pub are_told : Detail → List Test → Bool
are_told Json tests = list_all is_text tests
are_told Quiet tests = true
are_told Whole tests = true
are_told Verbose tests = true
are_told Plain tests = true

-- the end of a report of so many tests: in JSON it is the whole report
abbrev pub end_text : Detail → ℕ → List Trial → List ℕ
end_text Json tests trials = json_text trials
end_text Quiet tests trials = end_of Quiet tests (map told_of trials)
end_text Whole tests trials = end_of Whole tests (map told_of trials)
end_text Verbose tests trials = end_of Verbose tests (map told_of trials)
end_text Plain tests trials = end_of Plain tests (map told_of trials)

-- ---- a run that stops before its first test

-- how a header failed, by the status and the streams: memory was wanting for it, or it was written up to a fault
abbrev pub HeaderFails : List ℕ → Stream → Stream → ℕ → Type 0
HeaderFails head out err status =
    ((status ≡ 4) × Rests out × Told (out_of_memory (codes "lit")) err)
    ⊎ ((status ≡ 3) × StopsBehind [] head out × Told (cannot_write (codes "lit")) err)

-- there was no header
abbrev pub LacksHeader : List ℕ → Around → LitEnd → Type 0
LacksHeader head a end = (end ≡ untried end.status) × HeaderFails head a.out a.err end.status × NoHand a.hired

-- ---- a run that stops in its midst

-- what is written of it behind some bytes: the parts of the trials that were put, and where the stream failed a front of the next
abbrev pub StopWrites : List ℕ → Detail → ℕ → List Trial → Option Trial → PoolWhy → Stream → Type 0
StopWrites before detail tests trials other SinkFault out =
    (next : Trial) × (other ≡ Some next)
    × StopsBehind (before ++ parts_from detail tests 0 (map told_of trials)) (part_of detail tests (length trials) (told_of next)) out
StopWrites before detail tests trials other TooMuch out =
    (next : Trial) × (other ≡ Some next) × (MAX_KEPT < kept_by trials + (kept_of next).kept)
    × Taken (before ++ parts_from detail tests 0 (map told_of trials)) out
StopWrites before detail tests trials other NoMemory out =
    Taken (before ++ parts_from detail tests 0 (map told_of trials)) out

-- tests were run up to a stop: the trials are those of the first ones, in order, and the other one is that of the next
pub record StopsTests (before : List ℕ) (detail : Detail) (tests : List Test) (gave : Gave) (out : Stream) (stop : PoolStop)
    : Type 0 where
  pub done : List Test
  pub rest : List Test
  pub all : tests ≡ done ++ rest
  pub trials : AreTrials gave 0 done (returned stop)
  pub within : kept_by stop.trials ≤ MAX_KEPT
  pub wrote : StopWrites before detail (length tests) stop.trials stop.other stop.why out

-- what is told of it, and its status
abbrev pub StopTells : PoolWhy → ℕ → Stream → Type 0
StopTells SinkFault status err = (status ≡ 3) × Told (cannot_write (codes "lit")) err
StopTells TooMuch status err = Answered too_much 2 status err
StopTells NoMemory status err = (status ≡ 4) × Told (out_of_memory (codes "lit")) err

-- a run stopped in its midst
pub record StopsRun (detail : Detail) (workers : ℕ) (tests : List Test) (a : Around) (end : LitEnd) : Type 0 where
  pub stop : PoolStop
  pub same : (end.trials ≡ stop.trials) × (end.other ≡ stop.other)
  pub stopped : StopsTests (header detail (length tests)) detail tests a.hired.gave a.out stop
  pub told : StopTells stop.why end.status a.err
  pub hands : LeavesHands workers (length tests) (Err stop) a.hired.old a.hired.new

-- ---- a run of which every test is reported

-- the end of a report was written behind the rest, and the status is its own; or it was written up to a fault; or memory was
-- wanting for it
abbrev pub EndWrites : List ℕ → List ℕ → ℕ → ℕ → Stream → Stream → Type 0
EndWrites before text own status out err =
    ((status ≡ own) × Taken (before ++ text) out × Rests err)
    ⊎ ((status ≡ 3) × StopsBehind before text out × Told (cannot_write (codes "lit")) err)
    ⊎ ((status ≡ 4) × Taken before out × Told (out_of_memory (codes "lit")) err)

-- the same, of a report whose trials were put: what is written of its end
abbrev pub ReportEnds : Detail → ℕ → List Trial → ℕ → Stream → Stream → Type 0
ReportEnds detail tests trials status out err =
    EndWrites [] (end_text detail tests trials) (status_of (map told_of trials)) status out err

-- the parts of trials were written, which keep no more than they may; so much room is left
abbrev pub PartsWrite : Detail → ℕ → Stream → ℕ → List Trial → Type 0
PartsWrite detail tests out room trials =
    Taken (parts_from detail tests 0 (map told_of trials)) out × (kept_by trials ≤ MAX_KEPT)
    × (out.room ≤ room + length (parts_from detail tests 0 (map told_of trials)))

-- every test was run: there is a trial of each, in order, and the report is of these
pub record RunsAll (detail : Detail) (workers : ℕ) (tests : List Test) (a : Around) (end : LitEnd) : Type 0 where
  pub trials : AreTrials a.hired.gave 0 tests end.trials
  pub other : end.other ≡ None
  pub within : kept_by end.trials ≤ MAX_KEPT
  pub wrote : EndWrites (running detail (length tests) (map told_of end.trials))
      (end_text detail (length tests) end.trials) (status_of (map told_of end.trials)) end.status a.out a.err
  pub hands : LeavesHands workers (length tests) (Ok end.trials) a.hired.old a.hired.new

-- ---- a run

-- how tests were run by so many workers, and reported
abbrev pub RunEnds : Detail → ℕ → List Test → Around → LitEnd → Type 0
RunEnds detail workers tests a end =
    LacksHeader (header detail (length tests)) a end ⊎ StopsRun detail workers tests a end ⊎ RunsAll detail workers tests a end
