-- The trials of a run, and how a run stops.
-- Own rules: a test's number is its place among those that are run; trials are put on a desk in that order; a stopped run returns
-- what was put, and the trial that the desk refused.
use Rattle.std.specs.Prelude.{◌≡◌, ℕ, ◌+◌, ◌≤◌, true, false, List, ◌++◌, length, slice_get, take, Option, None, Some, IfSome}
use Rattle.std.specs.List.{range_with_len}
use Rattle.std.specs.Option.{option_to_list}
use Rattle.tt_outside.specs.Faults.{Rose}
use Rattle.tt_outside.specs.Gave.{Gave, SameGave}
use Rattle.tt_outside.specs.declared.crew.Runner.{Ghosts as OfRunner}
use Rattle.tt_outside.specs.declared.test_data.Test.{Test}
use Rattle.test_course.specs.Bytes.{kept_behind}
use Rattle.lit_test.specs.declared.trial.Trial.{Trial}
use Rattle.lit_round.specs.Trials.{AreTrials, any_fault, sum_entries}
use Rattle.lit_report.specs.Report.{TestReport}
use Rattle.lit_desk.specs.Desk.{Kept, PutFrom}
use Rattle.lit_desk.specs.declared.stop.DeskStop.{DeskStop}
use Rattle.lit_desk.specs.declared.stop.DeskStop.TheVariants as desk
use Rattle.lit_pool.specs.declared.rounds.Refusal.{Refusal}
use Rattle.lit_pool.specs.declared.stop.PoolStop.{PoolStop}
use Rattle.lit_pool.specs.declared.stop.PoolWhy.{PoolWhy}
use Rattle.lit_pool.specs.declared.stop.PoolWhy.TheVariants.{SinkFault, TooMuch, NoMemory}

-- ---- trials

-- what a report tells of a trial
abbrev pub told_of : Trial → TestReport
told_of trial = record { name = trial.test.name; result = trial.result; text = trial.text }

-- what a desk takes of it
abbrev pub kept_of : Trial → Kept
kept_of trial = record { kept = kept_behind 0 trial.entries; told = told_of trial }

-- a hand answered what the entries of trials say, and its count of faults rose where a reply of theirs is one, and else it stayed
pub record CountsFor {H : Type 0} (runner : OfRunner H) (old new : H) (trials : List Trial) : Type 0 where
  pub asked : runner.asked new ≡ runner.asked old + sum_entries trials
  pub broken : any_fault trials ≡ true → Rose (runner.faults old) (runner.faults new)
  pub calm : any_fault trials ≡ false → runner.faults new ≡ runner.faults old

-- A hand began some tests: it has room for as many fewer, gives the same replies, and may begin more. Its count of faults never fell.
pub record GoesOn {H : Type 0} (runner : OfRunner H) (old new : H) : Type 0 where
  pub room : length (runner.begun new) + runner.rooms new ≡ length (runner.begun old) + runner.rooms old
  pub gave : SameGave (runner.gave new) (runner.gave old)
  pub ready : runner.ready new
  pub later : runner.faults old ≤ runner.faults new

-- ---- a stopped run

-- all trials that a stopped run returns: those that were put, and behind them the other one
abbrev pub returned : PoolStop → List Trial
returned stop = stop.trials ++ option_to_list stop.other

-- A stopped hand counted the faults of these trials, and where the desk refused one of them it answered what their entries say. Of a test
-- whose trial isn't returned nothing is said.
pub record CountsAtStop {H : Type 0} (runner : OfRunner H) (old new : H) (stop : PoolStop) : Type 0 where
  pub asked : IfSome stop.other (λ _. runner.asked new ≡ runner.asked old + sum_entries (returned stop))
  pub broken : any_fault (returned stop) ≡ true → Rose (runner.faults old) (runner.faults new)

abbrev pub why_of : DeskStop → PoolWhy
why_of desk.SinkFault = SinkFault
why_of desk.TooMuch = TooMuch
why_of desk.NoMemory = NoMemory

-- the stop at a trial that the desk refused, of which these were to be put: those before it were
abbrev pub stop_at : List Trial → ℕ → DeskStop → PoolStop
stop_at trials place why = record { why = why_of why; trials = take place trials; other = slice_get trials place }

-- A desk refused the other trial, which tells why the run stopped. Where there is none, memory was wanting, and the desk was left
-- alone.
abbrev pub Refuses : {D : Type 0} → (D → ℕ → Trial → DeskStop → D → Type 0) → ℕ → PoolWhy → Option Trial → D → D → Type 0
Refuses Keeps place why None old new = (why ≡ NoMemory) × (old ≡ new)
Refuses Keeps place why (Some other) old new =
    (stop : DeskStop) × (why ≡ why_of stop) × Keeps old place other stop new

-- Of trials that were put from a place on a desk took so many, and refused the next.
pub record RefusesAt {D : Type 0} (Takes : D → ℕ → Trial → D → Type 0) (Keeps : D → ℕ → Trial → DeskStop → D → Type 0) (old : D)
    (place : ℕ) (trials : List Trial) (taken : ℕ) (why : DeskStop) (new : D) : Type 0 where
  pub other : Trial
  pub at : slice_get trials taken ≡ Some other
  pub between : D
  pub put : PutFrom Takes old place (take taken trials) between
  pub kept : Keeps between (place + taken) other why new

-- the same, told of a refusal
abbrev pub RefusesNext : {D : Type 0} → (D → ℕ → Trial → D → Type 0) → (D → ℕ → Trial → DeskStop → D → Type 0) → D → ℕ → List Trial
    → D → Refusal → Type 0
RefusesNext Takes Keeps old place trials new refusal = RefusesAt Takes Keeps old place trials refusal.taken refusal.why new

-- A run stopped: what it returns are the trials of the first tests, in order. All but the other one were put on the desk, in
-- order, and then the desk refused that one.
pub record IsStopped {D : Type 0} (Takes : D → ℕ → Trial → D → Type 0) (Keeps : D → ℕ → Trial → DeskStop → D → Type 0)
    (gave : Gave) (tests : List Test) (old new : D) (stop : PoolStop) : Type 0 where
  pub done : List Test
  pub rest : List Test
  pub all : tests ≡ done ++ rest
  pub trials : AreTrials gave 0 done (returned stop)
  pub between : D
  pub put : PutFrom Takes old 0 stop.trials between
  pub refused : Refuses Keeps (length stop.trials) stop.why stop.other between new

-- A stopped hand began the first of so many tests, in order: those of the trials that the run returns, and at most one more, and
-- that only where the desk refused none.
pub record BeginsSome (tests : ℕ) (old new : List ℕ) (stop : PoolStop) : Type 0 where
  pub count : ℕ
  pub begun : new ≡ old ++ range_with_len 0 count
  pub within : count ≤ tests
  pub least : length (returned stop) ≤ count
  pub most : count ≤ length stop.trials + 1
