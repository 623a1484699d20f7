-- Tests that were put on lit's desk, all of them or up to a stop.
-- Shown: what was put is in the report, behind what was written before. By the laws of the desk, over any object that has lit's
-- desk in it. The hard one is `stopped_at`: by the desk's cause, the other trial's part is there in front.
use Rattle.std.proofs.Common.{◌≡◌, ℕ, ◌+◌, ◌<◌, ◌≤◌, List, [], ◌∷◌, append-nil, length, map, IfErr, IfOk, Option, None, Some, Result, Ok, Err, refl, sym, ap, subst, ◌∙◌, arith}
use Rattle.std.specs.Io.KnownBytes.{Appends}
use Rattle.tt_outside.specs.Gave.{Gave}
use Rattle.tt_outside.specs.declared.test_data.Test.{Test}
use Rattle.tt_run.specs.Run.{Taken}
use Rattle.lit_words.specs.declared.asked.Detail.{Detail}
use Rattle.lit_test.specs.declared.trial.Trial.{Trial}
use Rattle.lit_report.specs.Report.{part_of, parts_from}
use Rattle.lit_desk.specs.Desk.{DeskNow, Kept, MAX_KEPT, PutFrom, Refused, StopCause, Took}
use Rattle.lit_desk.specs.declared.stop.DeskStop.{DeskStop}
use Rattle.lit_desk.specs.declared.stop.DeskStop.TheVariants as stops
use Rattle.lit_desk.proofs.PutLemmas.{parts_are_written, stays}
use Rattle.lit_pool.specs.Pool.{IsStopped, Refuses, kept_of, told_of, why_of}
use Rattle.lit_pool.specs.declared.stop.PoolStop.{PoolStop}
use Rattle.lit_pool.specs.declared.stop.PoolWhy.{PoolWhy}
use Rattle.lit_pool.specs.declared.stop.PoolWhy.TheVariants.{SinkFault, TooMuch, NoMemory}
use Rattle.run_report.specs.Run.{PartsWrite, StopWrites, StopsBehind, StopsTests, kept_by}
use Rattle.run_report.proofs.PieceLemmas.{Fills, Moment, span, stops_both, stops_first, taken_both}

-- ---- what was put

-- a desk took a trial, or refused one, and its stream stayed the same one
abbrev pub TakesIn : {D N : Type 0} → (D → DeskNow) → (D → N) → D → ℕ → Trial → D → Type 0
TakesIn now name one place trial next = Took (now one) place (kept_of trial) (now next) × (name next ≡ name one)

abbrev pub KeepsIn : {D N : Type 0} → (D → DeskNow) → (D → N) → D → ℕ → Trial → DeskStop → D → Type 0
KeepsIn now name one place trial stop next = Refused (now one) place (kept_of trial) stop (now next) × (name next ≡ name one)

-- what a report tells of trials is what a desk is told of them
told_all : (trials : List Trial) → map (λ (k : Kept). k.told) (map kept_of trials) ≡ map told_of trials
told_all [] = refl
told_all (trial ∷ trials) = ap (λ more. told_of trial ∷ more) (told_all trials)

-- lit's desk in an object
put_through : {D N : Type 0} (now : D → DeskNow) (name : D → N) (old new : D) (place : ℕ) (trials : List Trial)
    → PutFrom (TakesIn now name) old place trials new → PutFrom Took (now old) place (map kept_of trials) (now new)
put_through now name old new place [] put = ap now put
put_through now name old new place (trial ∷ trials) (next, took, put) =
    (now next, took.0, put_through now name next new (place + 1) trials put)

pub puts_same : {D N : Type 0} (now : D → DeskNow) (name : D → N) (old new : D) (place : ℕ) (trials : List Trial)
    → PutFrom (TakesIn now name) old place trials new → name new ≡ name old
puts_same now name old new place [] put = ap name (sym put)
puts_same now name old new place (trial ∷ trials) (next, took, put) =
    puts_same now name next new (place + 1) trials put ∙ took.1

-- a desk keeps no more than it may
kept_within : (old new : DeskNow) (place : ℕ) (tests : List Kept) → old.kept ≤ MAX_KEPT
    → PutFrom Took old place tests new → new.kept ≤ MAX_KEPT
kept_within old new place [] fits put = subst (λ (d : DeskNow). d.kept ≤ MAX_KEPT) put fits
kept_within old new place (test ∷ tests) fits (next, took, put) =
    kept_within next new (place + 1) tests took.most put

-- the stream of a desk
abbrev pub at : DeskNow → Moment
at d = record { held = d.held; faults = d.faults; room = d.room }

abbrev parts : DeskNow → List Trial → List ℕ
parts d trials = parts_from d.detail d.tests 0 (map told_of trials)

puts_write : (old new : DeskNow) (trials : List Trial) → old.kept ≡ 0 → PutFrom Took old 0 (map kept_of trials) new
    → Fills (parts old trials) (at old) (at new) × (new.kept ≡ kept_by trials) × (kept_by trials ≤ MAX_KEPT)
puts_write old new trials none put =
    let (wrote, kept, room) = parts_are_written old new 0 (map kept_of trials) put in
    let sum : new.kept ≡ kept_by trials = omega (arith, kept, none) in
    let most = kept_within old new 0 (map kept_of trials) (omega (arith, none)) put in (
      subst (λ told. Fills (parts_from old.detail old.tests 0 told) (at old) (at new)) (told_all trials) (wrote, room),
      sum,
      subst (λ n. n ≤ MAX_KEPT) sum most,
    )

pub all_put : {D N : Type 0} (now : D → DeskNow) (name : D → N) (old new : D) (detail : Detail) (tests : ℕ)
    (trials : List Trial) → (now old).kept ≡ 0 → (now old).detail ≡ detail → (now old).tests ≡ tests
    → PutFrom (TakesIn now name) old 0 trials new
    → PartsWrite detail tests (span (at (now old)) (at (now new))) (now new).room trials
all_put now name old new detail tests trials none shows count put =
    let (filled, sum, most) = puts_write (now old) (now new) trials none (put_through now name old new 0 trials put) in
    let parts_are : parts (now old) trials ≡ parts_from detail tests 0 (map told_of trials) =
    ap (λ d. parts_from d (now old).tests 0 (map told_of trials)) shows
    ∙ ap (λ n. parts_from detail n 0 (map told_of trials)) count in
    let same = subst (λ bytes. Fills bytes (at (now old)) (at (now new))) parts_are filled in
    (same.0, most, same.1)

-- ---- a stop

-- a stream that was left alone behind what was written
taken_still : (bytes : List ℕ) (a b c : Moment) → Fills bytes a b → c.held ≡ b.held → c.faults ≡ b.faults
    → Taken bytes (span a c)
taken_still bytes a b c first held faults =
    (subst (λ h. Appends a.held h bytes) (sym held) first.0.0, faults ∙ first.0.1)

stopped_at : (begun last end : DeskNow) (trials : List Trial) (other : Trial) (stop : DeskStop)
    → Fills (parts begun trials) (at begun) (at last) → last.detail ≡ begun.detail → last.tests ≡ begun.tests
    → last.kept ≡ kept_by trials → StopCause last (length trials) (kept_of other) stop end
    → StopWrites [] begun.detail begun.tests trials (Some other) (why_of stop) (span (at begun) (at end))
stopped_at begun last end trials other stops.SinkFault filled shows count kept cause =
    let part = part_of last.detail last.tests (length trials) (told_of other) in
    let first : StopsBehind [] part (span (at last) (at end)) =
    stops_first part last.held end.held last.faults end.faults last.room cause.0 cause.1 cause.2 in
    let same : StopsBehind [] (part_of begun.detail begun.tests (length trials) (told_of other)) (span (at last) (at end)) =
    subst (λ n. StopsBehind [] (part_of begun.detail n (length trials) (told_of other)) (span (at last) (at end))) count
    (subst (λ d. StopsBehind [] (part_of d last.tests (length trials) (told_of other)) (span (at last) (at end))) shows first) in
    let whole = part_of begun.detail begun.tests (length trials) (told_of other) in (
      other,
      refl,
      subst (λ all. StopsBehind all whole (span (at begun) (at end))) (append-nil (parts begun trials))
          (stops_both (parts begun trials) [] whole (at begun) (at last) (at end) filled same),
    )
stopped_at begun last end trials other stops.TooMuch filled shows count kept cause = (
  other,
  refl,
  subst (λ n. MAX_KEPT < n + (kept_of other).kept) kept cause.0,
  taken_still (parts begun trials) (at begun) (at last) (at end) filled cause.1.0 cause.1.1,
)
stopped_at begun last end trials other stops.NoMemory filled shows count kept cause =
    taken_still (parts begun trials) (at begun) (at last) (at end) filled cause.0 cause.1

-- by the trial that the desk refused, if there is one
stopped_by : {D N : Type 0} (now : D → DeskNow) (name : D → N) (begun : DeskNow) (last end : D) (trials : List Trial)
    (why : PoolWhy) (other : Option Trial) → Fills (parts begun trials) (at begun) (at (now last))
    → (now last).detail ≡ begun.detail → (now last).tests ≡ begun.tests → (now last).kept ≡ kept_by trials
    → Refuses (KeepsIn now name) (length trials) why other last end
    → StopWrites [] begun.detail begun.tests trials other why (span (at begun) (at (now end)))
stopped_by now name begun last end trials why None filled shows count kept (lack, still) =
    subst (λ w. StopWrites [] begun.detail begun.tests trials None w (span (at begun) (at (now end)))) (sym lack)
    (subst (λ d. Taken (parts begun trials) (span (at begun) (at (now d)))) still filled.0)
stopped_by now name begun last end trials why (Some other) filled shows count kept (stop, same, refused) =
    subst (λ w. StopWrites [] begun.detail begun.tests trials (Some other) w (span (at begun) (at (now end)))) (sym same)
    (stopped_at begun (now last) (now end) trials other stop filled shows count kept refused.0.cause)

refuses_same : {D N : Type 0} (now : D → DeskNow) (name : D → N) (last end : D) (place : ℕ) (why : PoolWhy)
    (other : Option Trial) → Refuses (KeepsIn now name) place why other last end → name end ≡ name last
refuses_same now name last end place why None (lack, still) = ap name (sym still)
refuses_same now name last end place why (Some other) (stop, same, refused) = refused.1

pub stop_same : {D N : Type 0} (now : D → DeskNow) (name : D → N) (gave : Gave) (tests : List Test) (old new : D)
    (stop : PoolStop) → IsStopped (TakesIn now name) (KeepsIn now name) gave tests old new stop → name new ≡ name old
stop_same now name gave tests old new stop stopped =
    refuses_same now name stopped.between new (length stop.trials) stop.why stop.other stopped.refused
    ∙ puts_same now name old stopped.between 0 stop.trials stopped.put

pub stop_tests : {D N : Type 0} (now : D → DeskNow) (name : D → N) (gave : Gave) (tests : List Test) (old new : D)
    (stop : PoolStop) (detail : Detail) → (now old).kept ≡ 0 → (now old).detail ≡ detail → (now old).tests ≡ length tests
    → IsStopped (TakesIn now name) (KeepsIn now name) gave tests old new stop
    → StopsTests [] detail tests gave (span (at (now old)) (at (now new))) stop
stop_tests now name gave tests old new stop detail none shows count stopped =
    let put = put_through now name old stopped.between 0 stop.trials stopped.put in
    let (filled, sum, most) = puts_write (now old) (now stopped.between) stop.trials none put in
    let (stay_shown, stay_count) = stays (now old) (now stopped.between) 0 (map kept_of stop.trials) put in
    let wrote = stopped_by now name (now old) stopped.between new stop.trials stop.why stop.other filled stay_shown stay_count
    sum stopped.refused in
    record {
      done = stopped.done;
      rest = stopped.rest;
      all = stopped.all;
      trials = stopped.trials;
      within = most;
      wrote = subst (λ n. StopWrites [] detail n stop.trials stop.other stop.why (span (at (now old)) (at (now new)))) count
          (subst (λ d. StopWrites [] d (now old).tests stop.trials stop.other stop.why (span (at (now old)) (at (now new))))
          shows wrote);
    }

-- ---- behind the header

write_behind : (head : List ℕ) (detail : Detail) (tests : ℕ) (trials : List Trial) (other : Option Trial) (why : PoolWhy)
    (a b c : Moment) → Fills head a b → StopWrites [] detail tests trials other why (span b c)
    → StopWrites head detail tests trials other why (span a c)
write_behind head detail tests trials other SinkFault a b c first (next, is, stops) =
    (next, is, stops_both head _ _ a b c first stops)
write_behind head detail tests trials other TooMuch a b c first (next, is, much, taken) =
    (next, is, much, taken_both head _ a b c first taken)
write_behind head detail tests trials other NoMemory a b c first taken = taken_both head _ a b c first taken

-- a stop behind the header, with the crew's own replies
pub stop_behind : (head : List ℕ) (detail : Detail) (tests : List Test) (gave : Gave) (stop : PoolStop) (a b c : Moment)
    → Fills head a b → StopsTests [] detail tests gave (span b c) stop → StopsTests head detail tests gave (span a c) stop
stop_behind head detail tests gave stop a b c first stopped = record {
  done = stopped.done;
  rest = stopped.rest;
  all = stopped.all;
  trials = stopped.trials;
  within = stopped.within;
  wrote = write_behind head detail (length tests) stop.trials stop.other stop.why a b c first stopped.wrote;
}

-- ---- in results

pub ok_weaker : {A E : Type 0} {P Q : A → Type 0} (result : Result A E) → ((x : A) → P x → Q x) → IfOk result P → IfOk result Q
ok_weaker (Ok x) step is = step x is
ok_weaker (Err fault) step is = tt

pub err_weaker : {A E : Type 0} {P Q : E → Type 0} (result : Result A E) → ((x : E) → P x → Q x) → IfErr result P
    → IfErr result Q
err_weaker (Ok x) step is = tt
err_weaker (Err fault) step is = step fault is
