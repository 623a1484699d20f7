-- A run, put together of what each step of it left.
use Rattle.std.proofs.Common.{◌≡◌, ℕ, List, [], length, map, None, Ok, Err, refl, subst}
use Rattle.tt_outside.specs.Gave.{Gave}
use Rattle.tt_outside.specs.declared.crew.Left.{Left}
use Rattle.tt_outside.specs.declared.test_data.Test.{Test}
use Rattle.tt_run.specs.Run.{Stream}
use Rattle.lit_words.specs.declared.asked.Detail.{Detail}
use Rattle.lit_test.specs.declared.trial.Trial.{Trial}
use Rattle.lit_report.specs.Ending.{status_of}
use Rattle.lit_report.specs.Report.{header, parts_from, running}
use Rattle.lit_round.specs.Trials.{AreTrials}
use Rattle.lit_pool.specs.Crew.{LeavesHands}
use Rattle.lit_pool.specs.Pool.{told_of}
use Rattle.lit_pool.specs.declared.stop.PoolStop.{PoolStop}
use Rattle.run_report.specs.Run.{EndWrites, PartsWrite, RunsAll, StopTells, StopsRun, StopsTests, around, end_text}
use Rattle.run_report.proofs.PieceLemmas.{Fills, Moment, end_behind, fills_both, span}
use Rattle.run_report.proofs.StopLemmas.{stop_behind}

-- every test was run
pub runs_all : {S : Type 0} (detail : Detail) (workers : ℕ) (tests : List Test) (count : ℕ) (gave : Gave) (before after : List Left)
    (a b c d : Moment) (err : S → Stream) (old between : S) (trials told : List Trial) (status : ℕ)
    → count ≡ length tests → AreTrials gave 0 tests trials → Fills (header detail count) a b
    → PartsWrite detail (length tests) (span b c) c.room trials → told ≡ trials → between ≡ old
    → EndWrites [] (end_text detail count told) (status_of (map told_of told)) status (span c d) (err between)
    → LeavesHands workers (length tests) (Ok trials) before after
    → RunsAll detail workers tests (around (record { gave = gave; old = before; new = after }) (span a d) (err old))
    (record { status = status; trials = trials; other = None })
runs_all detail workers tests count gave before after a b c d err old between trials told status
    counted are head wrote slice calm ends hands =
    let filled = fills_both (header detail (length tests)) (parts_from detail (length tests) 0 (map told_of trials)) a b c
    (subst (λ n. Fills (header detail n) a b) counted head) (wrote.0, wrote.2) in
    let of_trials = subst (λ all. EndWrites [] (end_text detail count all) (status_of (map told_of all)) status (span c d) (err between)) slice ends in
    let of_tests = subst (λ n. EndWrites [] (end_text detail n trials) (status_of (map told_of trials)) status (span c d) (err between)) counted of_trials in
    let told_first = subst (λ e. EndWrites [] (end_text detail (length tests) trials) (status_of (map told_of trials)) status (span c d) (err e)) calm of_tests in
    record {
      trials = are;
      other = refl;
      within = wrote.1;
      wrote = end_behind (running detail (length tests) (map told_of trials)) (end_text detail (length tests) trials)
          (status_of (map told_of trials)) status a c d (err old) filled told_first;
      hands = hands;
    }

-- a run stopped in its midst
pub stops_run : {S : Type 0} (detail : Detail) (workers : ℕ) (tests : List Test) (count : ℕ) (gave : Gave) (before after : List Left)
    (a b c : Moment) (err : S → Stream) (old between : S) (stop : PoolStop) (status : ℕ)
    → count ≡ length tests → Fills (header detail count) a b
    → StopsTests [] detail tests gave (span b c) stop → between ≡ old → StopTells stop.why status (err between)
    → LeavesHands workers (length tests) (Err stop) before after
    → StopsRun detail workers tests (around (record { gave = gave; old = before; new = after }) (span a c) (err old))
    (record { status = status; trials = stop.trials; other = stop.other })
stops_run detail workers tests count gave before after a b c err old between stop status
    counted head stopped calm told hands = record {
      stop = stop;
      same = (refl, refl);
      stopped = stop_behind (header detail (length tests)) detail tests gave stop a b c
          (subst (λ n. Fills (header detail n) a b) counted head) stopped;
      told = subst (λ e. StopTells stop.why status (err e)) calm told;
      hands = hands;
    }
