-- Status 3 comes of a stream's fault that was counted. By cases on where a run stopped.
use Rattle.std.proofs.Common.{◌≡◌, ◌⊎◌, ℕ, Bool, true, false, if◌then◌else◌, List, length, map, Option, inl, inr}
use Rattle.std.specs.List.{list_any}
use Rattle.tt_outside.specs.Faults.{Rose}
use Rattle.tt_outside.specs.declared.test_data.Test.{Test}
use Rattle.tt_run.specs.Run.{Stream}
use Rattle.test_outcome.specs.Outcome.{is_failure}
use Rattle.lit_words.specs.declared.asked.Detail.{Detail}
use Rattle.lit_test.specs.declared.trial.Trial.{Trial}
use Rattle.lit_report.specs.Ending.{status_of}
use Rattle.lit_report.specs.Report.{TestReport, header, running}
use Rattle.lit_pool.specs.Pool.{told_of}
use Rattle.lit_pool.specs.declared.stop.PoolWhy.{PoolWhy}
use Rattle.lit_pool.specs.declared.stop.PoolWhy.TheVariants.{SinkFault, TooMuch, NoMemory}
use Rattle.run_report.specs.Run.{Around, EndWrites, HeaderFails, RunEnds, StopTells, StopWrites, end_text}
use Rattle.run_report.specs.declared.ending.LitEnd.{LitEnd}

-- a stream of a run counted a fault
abbrev pub StreamFailed : Stream → Stream → Type 0
StreamFailed out err = Rose out.before out.now ⊎ Rose err.before err.now

header_three : (head : List ℕ) (out err : Stream) (status : ℕ) → HeaderFails head out err status → status ≡ 3
    → StreamFailed out err
header_three head out err status (inl (four, rests, told)) is = cc
header_three head out err status (inr (three, stops, told)) is = inl stops.rose

stop_three : (before : List ℕ) (detail : Detail) (tests : ℕ) (trials : List Trial) (other : Option Trial) (why : PoolWhy)
    (status : ℕ) (out err : Stream) → StopWrites before detail tests trials other why out → StopTells why status err
    → status ≡ 3 → StreamFailed out err
stop_three before detail tests trials other SinkFault status out err (next, same, stops) told is = inl stops.rose
stop_three before detail tests trials other TooMuch status out err wrote (inl (two, taken)) is = cc
stop_three before detail tests trials other TooMuch status out err wrote (inr (three, stopped)) is = inr stopped.1
stop_three before detail tests trials other NoMemory status out err wrote (four, told) is = cc

choice_small : (b : Bool) (status : ℕ) → status ≡ (if b then 1 else 0) → status ≡ 3 → ⊥
choice_small true status same is = cc
choice_small false status same is = cc

end_three : (before text : List ℕ) (told : List TestReport) (status : ℕ) (out err : Stream)
    → EndWrites before text (status_of told) status out err → status ≡ 3 → StreamFailed out err
end_three before text told status out err (inl (same, taken, rests)) is =
    absurd (choice_small (list_any (λ test. is_failure test.result) told) status same is)
end_three before text told status out err (inr (inl (three, stops, tells))) is = inl stops.rose
end_three before text told status out err (inr (inr (four, taken, tells))) is = cc

pub run_fault : (detail : Detail) (workers : ℕ) (tests : List Test) (a : Around) (end : LitEnd) → RunEnds detail workers tests a end
    → end.status ≡ 3 → StreamFailed a.out a.err
run_fault detail workers tests a end (inl (same, fails, nobody)) is =
    header_three (header detail (length tests)) a.out a.err end.status fails is
run_fault detail workers tests a end (inr (inl stops)) is =
    stop_three (header detail (length tests)) detail (length tests) stops.stop.trials stops.stop.other stops.stop.why end.status
    a.out a.err stops.stopped.wrote stops.told is
run_fault detail workers tests a end (inr (inr all)) is =
    end_three (running detail (length tests) (map told_of end.trials))
    (end_text detail (length tests) end.trials) (map told_of end.trials) end.status a.out a.err all.wrote is
