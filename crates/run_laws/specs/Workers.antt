-- Runs of the same tests by any numbers of workers.
-- Own rule: where hands give one reply to each request of a test, for what was asked before it in the same test, a run is told in the
-- same words whatever the number of its workers.
use Rattle.std.specs.Prelude.{◌≡◌, ℕ, ◌≤◌, List, ◌++◌}
use Rattle.std.specs.Option.{option_to_list}
use Rattle.tt_outside.specs.Gave.{IsSteady, SameGave}
use Rattle.tt_outside.specs.declared.crew.Crew.{Ghosts as OfCrew}
use Rattle.tt_outside.specs.declared.crew.Left.{Left}
use Rattle.tt_outside.specs.declared.sink.Sink.{Ghosts as OfSink}
use Rattle.tt_outside.specs.declared.test_data.Test.{Test}
use Rattle.tt_run.specs.Run.{Crew, Taken, crew_of, stream_of}
use Rattle.lit_words.specs.declared.asked.Detail.{Detail}
use Rattle.lit_test.specs.declared.trial.Trial.{Trial}
use Rattle.lit_round.specs.Hands.{asked_of}
use Rattle.lit_pool.specs.Crew.{begun_of}
use Rattle.run_report.specs.Run.{Around, Rests, RunEnds, around}
use Rattle.run_report.specs.declared.ending.LitEnd.{LitEnd}

-- the hands of two runs, however many, began each test as often, and answered as many requests
pub record DidAlike (a b : Crew) : Type 0 where
  pub hands : List Left
  pub others : List Left
  pub left : a.new ≡ a.old ++ hands
  pub other : b.new ≡ b.old ++ others
  pub begun : (number : ℕ) → begun_of number hands ≡ begun_of number others
  pub asked : asked_of hands ≡ asked_of others

-- two runs have one status and the same trials, wrote one report and no message, and their hands did the same
pub record EndsAlike (a b : Around) (one other : LitEnd) : Type 0 where
  pub same : one ≡ other
  pub report : List ℕ
  pub wrote : Taken report a.out
  pub too : Taken report b.out
  pub calm : Rests a.err
  pub silent : Rests b.err
  pub hands : DidAlike a.hired b.hired

-- Law: so two runs end that report each test, with any numbers of workers, over hands that give the same, and that each time.
abbrev pub IsOneReport : Around → Around → Type 0
IsOneReport a b =
    (detail : Detail) (tests : List Test) (workers others : ℕ) (one other : LitEnd) → IsSteady a.hired.gave
    → SameGave b.hired.gave a.hired.gave → RunEnds detail workers tests a one → RunEnds detail others tests b other
    → one.status ≤ 1 → other.status ≤ 1 → EndsAlike a b one other

-- the trials of a run, and the one that couldn't be reported
abbrev pub trials_of : LitEnd → List Trial
trials_of end = end.trials ++ option_to_list end.other

-- Law: however such a run stops, its trials are the first of a run that reports each test.
abbrev pub StopsInFront : Around → Around → Type 0
StopsInFront a b =
    (detail : Detail) (tests : List Test) (workers others : ℕ) (one other : LitEnd) → IsSteady a.hired.gave
    → SameGave b.hired.gave a.hired.gave → RunEnds detail workers tests a one → RunEnds detail others tests b other
    → one.status ≤ 1 → (rest : List Trial) × (one.trials ≡ trials_of other ++ rest)

-- any two runs, by crews and on streams of these types
abbrev pub OfRuns : {C H O E : Type 0} → OfCrew C H → OfSink O → OfSink E → (Around → Around → Type 0) → Type 0
OfRuns {C} {H} {O} {E} hired report told Law =
    (first last again end : C) (blank full empty whole : O) (calm spoke silent cried : E)
    → Law (around (crew_of hired first last) (stream_of report blank full) (stream_of told calm spoke))
    (around (crew_of hired again end) (stream_of report empty whole) (stream_of told silent cried))
