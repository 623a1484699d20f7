-- Runs of the same tests by any numbers of workers: that report each test they end alike, and one that stops has the first trials.
-- Idea: a run that ends with 0 or 1 reported every test, and a steady crew leaves one list of trials for these, which tells the
-- report, the status and what its hands did. The hard one is `ends_alike`.
use Rattle.std.proofs.Common.{◌≡◌, ℕ, ◌≤◌, List, [], ◌++◌, map, take, drop, length, Option, sym, ap, ◌∙◌, subst, arith, inl, inr}
use Rattle.std.proofs.lemmas.List.{append-nil, take-append-drop}
use Rattle.std.proofs.Math.Seq.{take-append_seam}
use Rattle.std.specs.Option.{option_to_list}
use Rattle.tt_outside.specs.Gave.{IsSteady, SameGave}
use Rattle.tt_outside.specs.declared.test_data.Test.{Test}
use Rattle.tt_run.specs.Run.{Stream, Taken}
use Rattle.lit_words.specs.declared.asked.Detail.{Detail}
use Rattle.lit_test.specs.declared.trial.Trial.{Trial}
use Rattle.lit_report.specs.Ending.{status_of}
use Rattle.lit_report.specs.Report.{header, running}
use Rattle.lit_round.specs.Trials.{AreTrials, sum_entries}
use Rattle.lit_pool.proofs.LawLemmas.{one_run}
use Rattle.lit_pool.proofs.RunLemmas.{trials_same, trials_take}
use Rattle.lit_pool.specs.Pool.{returned, told_of}
use Rattle.lit_pool.specs.declared.stop.PoolWhy.{PoolWhy}
use Rattle.lit_pool.specs.declared.stop.PoolWhy.TheVariants.{SinkFault, TooMuch, NoMemory}
use Rattle.run_report.specs.Run.{Around, EndWrites, LacksHeader, Rests, RunEnds, RunsAll, StopTells, StopsRun, end_text}
use Rattle.run_report.specs.declared.ending.LitEnd.{LitEnd}
use Rattle.run_laws.specs.Workers.{EndsAlike, trials_of}

-- ---- a run that ends with 0 or 1

-- a stop has another status
no_stop : (why : PoolWhy) (status : ℕ) (err : Stream) → StopTells why status err → status ≤ 1 → ⊥
no_stop SinkFault status err told low = omega (arith, told.0, low)
no_stop TooMuch status err (inl told) low = omega (arith, told.0, low)
no_stop TooMuch status err (inr told) low = omega (arith, told.0, low)
no_stop NoMemory status err told low = omega (arith, told.0, low)

-- a run without a header has another status
no_header : (head : List ℕ) (a : Around) (end : LitEnd) → LacksHeader head a end → end.status ≤ 1 → ⊥
no_header head a end (same, inl lacks, hands) low = omega (arith, lacks.0, low)
no_header head a end (same, inr lacks, hands) low = omega (arith, lacks.0, low)

-- each test was reported
all_reported : (detail : Detail) (workers : ℕ) (tests : List Test) (a : Around) (end : LitEnd) → RunEnds detail workers tests a end
    → end.status ≤ 1 → RunsAll detail workers tests a end
all_reported detail workers tests a end (inl lacks) low = absurd (no_header (header detail (length tests)) a end lacks low)
all_reported detail workers tests a end (inr (inl stops)) low = absurd (no_stop stops.stop.why end.status a.err stops.told low)
all_reported detail workers tests a end (inr (inr all)) low = all

-- the report was written, with its own status
wrote_all : (before text : List ℕ) (own status : ℕ) (out err : Stream) → EndWrites before text own status out err → status ≤ 1
    → (status ≡ own) × Taken (before ++ text) out × Rests err
wrote_all before text own status out err (inl wrote) low = wrote
wrote_all before text own status out err (inr (inl stops)) low = absurd (omega (arith, stops.0, low))
wrote_all before text own status out err (inr (inr lacks)) low = absurd (omega (arith, lacks.0, low))

-- ---- two of them

abbrev report_of : Detail → ℕ → List Trial → List ℕ
report_of detail tests trials = running detail tests (map told_of trials) ++ end_text detail tests trials

same_ends : (one other : LitEnd) → one.status ≡ other.status → one.trials ≡ other.trials → one.other ≡ other.other → one ≡ other
same_ends one other status trials next = λ i. record { status = status i; trials = trials i; other = next i }

module _ (detail : Detail) (tests : List Test) (workers others : ℕ) (a b : Around) (one other : LitEnd) (steady : IsSteady a.hired.gave)
    (gave : SameGave b.hired.gave a.hired.gave) where
  same_trials : RunsAll detail workers tests a one → RunsAll detail others tests b other → one.trials ≡ other.trials
  same_trials first second =
      one_run a.hired.gave steady 0 tests one.trials other.trials first.trials
      (trials_same b.hired.gave a.hired.gave gave 0 tests other.trials second.trials)

  pub ends_alike : RunEnds detail workers tests a one → RunEnds detail others tests b other → one.status ≤ 1 → other.status ≤ 1
      → EndsAlike a b one other
  ends_alike ends too low least =
      let first = all_reported detail workers tests a one ends low in
      let second = all_reported detail others tests b other too least in
      let trials = same_trials first second in
      let mine = wrote_all _ _ _ _ _ _ first.wrote low in
      let its = wrote_all _ _ _ _ _ _ second.wrote least in
      let status = mine.0 ∙ ap (λ (ts : List Trial). status_of (map told_of ts)) trials ∙ sym its.0 in
      let left = first.hands.left in
      let also = second.hands.left in
      record {
        same = same_ends one other status trials (first.other ∙ sym second.other);
        report = report_of detail (length tests) one.trials;
        wrote = mine.1;
        too = subst (λ ts. Taken (report_of detail (length tests) ts) b.out) (sym trials) its.1;
        calm = mine.2;
        silent = its.2;
        hands = record {
          hands = first.hands.hands;
          others = second.hands.hands;
          left = first.hands.dismissed;
          other = second.hands.dismissed;
          begun = λ number. left.begun.once number ∙ sym (also.begun.once number);
          asked = left.asked ∙ ap sum_entries trials ∙ sym also.asked;
        };
      }

  -- ---- one of them, and one that stops

  stops_in_front : RunsAll detail workers tests a one → StopsRun detail others tests b other
      → (rest : List Trial) × (one.trials ≡ trials_of other ++ rest)
  stops_in_front first stops =
      let stop = stops.stop in
      let stopped = stops.stopped in
      let count = length stopped.done in
      let part : take count tests ≡ stopped.done = ap (take count) stopped.all ∙ take-append_seam stopped.done stopped.rest in
      let front = subst (λ ts. AreTrials a.hired.gave 0 ts (take count one.trials)) part
      (trials_take a.hired.gave 0 count tests one.trials first.trials) in
      let its = trials_same b.hired.gave a.hired.gave gave 0 stopped.done (returned stop) stopped.trials in
      let same = one_run a.hired.gave steady 0 stopped.done (take count one.trials) (returned stop) front its in
      let ends : returned stop ≡ trials_of other =
      ap (λ (ts : List Trial). ts ++ option_to_list stop.other) (sym stops.same.0)
      ∙ ap (λ (o : Option Trial). other.trials ++ option_to_list o) (sym stops.same.1) in
      (drop count one.trials, sym (take-append-drop count one.trials) ∙ ap (λ (ts : List Trial). ts ++ drop count one.trials) (same ∙ ends))

  pub in_front : RunEnds detail workers tests a one → RunEnds detail others tests b other → one.status ≤ 1
      → (rest : List Trial) × (one.trials ≡ trials_of other ++ rest)
  in_front ends (inl lacks) low = (one.trials, ap (λ (end : LitEnd). trials_of end ++ one.trials) (sym lacks.0))
  in_front ends (inr (inl stops)) low = stops_in_front (all_reported detail workers tests a one ends low) stops
  in_front ends (inr (inr all)) low =
      let first = all_reported detail workers tests a one ends low in
      let nothing : trials_of other ≡ other.trials =
      ap (λ (o : Option Trial). other.trials ++ option_to_list o) all.other ∙ append-nil other.trials in
      ([], same_trials first all ∙ sym nothing ∙ sym (append-nil (trials_of other)))
