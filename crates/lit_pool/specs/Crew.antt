-- What the hands of a crew leave behind a run.
-- Own rules: a hand is hired for each worker before the first test, and each is dismissed however the run ends. Tests are run in rounds,
-- and a round begins behind the last trial of the one before.
use Rattle.std.specs.Prelude.{◌≡◌, ◌≢◌, ℕ, ◌+◌, ◌-◌, ◌%◌, ◌≤◌, nat_lt, if◌then◌else◌, true, false, List, [], ◌++◌, length, replicate, Result, Ok, Err}
use Rattle.std.specs.List.{All, sum_by}
use Rattle.tt_outside.specs.Faults.{Rose}
use Rattle.tt_outside.specs.Gave.{Gave}
use Rattle.tt_outside.specs.declared.crew.Left.{Left}
use Rattle.tt_outside.specs.declared.crew.Runner.{Ghosts as OfRunner}
use Rattle.lit_test.specs.declared.trial.Trial.{Trial}
use Rattle.lit_claims.specs.Counted.{count_of}
use Rattle.lit_round.specs.Hands.{IsHandOf, MAX_ROUND, all_left, asked_of, begun_by, faults_of, rooms_of}
use Rattle.lit_round.specs.Trials.{any_fault, sum_entries}
use Rattle.lit_pool.specs.Pool.{returned}
use Rattle.lit_pool.specs.declared.stop.PoolStop.{PoolStop}
use Rattle.lit_pool.specs.declared.stop.PoolWhy.TheVariants.{NoMemory}

-- a hand that began and asked nothing
abbrev pub nothing_left : Left
nothing_left = record { begun = []; asked = 0; faults = 0 }

-- Hands were hired: they began and asked nothing, have room for so many tests each, and give what the crew gives.
pub record AreHired {H : Type 0} (runner : OfRunner H) (gave : Gave) (tests : ℕ) (hands : List H) : Type 0 where
  pub fresh : all_left runner hands ≡ replicate (length hands) nothing_left
  pub rooms : rooms_of runner hands ≡ replicate (length hands) tests
  pub own : All (IsHandOf runner gave) hands

-- at most so many hands were dismissed that began and asked nothing
pub record LeavesFresh (workers : ℕ) (old new : List Left) : Type 0 where
  pub some : ℕ
  pub most : some ≤ workers
  pub hands : new ≡ old ++ replicate some nothing_left

-- how often hands together began the test of a number
abbrev pub begun_of : ℕ → List Left → ℕ
begun_of number hands = sum_by (λ hand. count_of number hand.begun) hands

-- hands together began the first tests, so many, each once, and no others
pub record BeginsFirst (tests : ℕ) (hands : List Left) : Type 0 where
  pub once : (number : ℕ) → begun_of number hands ≡ (if nat_lt number tests then 1 else 0)
  pub number : begun_by hands ≡ tests

-- every test was run: there was a hand for each worker, and together they began each test once, answered what the trials' entries say,
-- and counted a fault where a reply is one, and else none
pub record LeftAtEnd (workers tests : ℕ) (trials : List Trial) (hands : List Left) : Type 0 where
  pub count : length hands ≡ workers
  pub begun : BeginsFirst tests hands
  pub asked : asked_of hands ≡ sum_entries trials
  pub broken : any_fault trials ≡ true → Rose 0 (faults_of hands)
  pub calm : any_fault trials ≡ false → faults_of hands ≡ 0

-- the first place of the round in which so many trials are put
abbrev pub round_of : ℕ → ℕ
round_of trials = trials - trials % MAX_ROUND

-- A run stopped: there was a hand for each worker, or for want of memory at most so many. Together they began some first tests, each
-- once: those of the trials that are returned, and none behind the round of the stop.
pub record LeftAtStop (workers tests : ℕ) (stop : PoolStop) (hands : List Left) : Type 0 where
  pub count : length hands ≤ workers
  pub all : stop.why ≢ NoMemory → length hands ≡ workers
  pub some : ℕ
  pub begun : BeginsFirst some hands
  pub least : length (returned stop) ≤ some
  pub within : some ≤ tests
  pub most : some ≤ round_of (length stop.trials) + MAX_ROUND
  pub broken : any_fault (returned stop) ≡ true → Rose 0 (faults_of hands)

-- what hands left, however the tests ended
abbrev pub AllLeft : ℕ → ℕ → Result (List Trial) PoolStop → List Left → Type 0
AllLeft workers tests (Ok trials) hands = LeftAtEnd workers tests trials hands
AllLeft workers tests (Err stop) hands = LeftAtStop workers tests stop hands

-- the same of hands behind the rounds of so many tests, as many as before them
abbrev pub HandsLeave : {H : Type 0} → OfRunner H → ℕ → Result (List Trial) PoolStop → List H → List H → Type 0
HandsLeave runner tests ended old new = AllLeft (length old) tests ended (all_left runner new)

-- the hands that were dismissed in a run of so many tests
pub record LeavesHands (workers tests : ℕ) (ended : Result (List Trial) PoolStop) (old new : List Left) : Type 0 where
  pub hands : List Left
  pub dismissed : new ≡ old ++ hands
  pub left : AllLeft workers tests ended hands
