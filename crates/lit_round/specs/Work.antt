-- What workers of a round do by the numbers that they draw.
-- Own rule: a number below the round's length names a test of it. Each worker runs the tests that its numbers name; so what the hands
-- began is known by counts of what was drawn, and counts add up.
use Rattle.std.specs.Prelude.{ℕ, ◌≡◌, ◌+◌, ◌-◌, ◌^◌, ◌<◌, ◌≤◌, min, Bool, true, false, List, [], ◌∷◌, ◌++◌, length, map, Vec, vec_capacity, vec_len}
use Rattle.std.specs.List.{All, sum_by}
use Rattle.std.specs.declared.alloc.Global.{Global}
use Rattle.tt_outside.specs.Faults.{Rose}
use Rattle.tt_outside.specs.Gave.{Gave}
use Rattle.tt_outside.specs.declared.crew.Left.{Left}
use Rattle.tt_outside.specs.declared.crew.Runner.{Ghosts as OfRunner}
use Rattle.tt_outside.specs.declared.test_data.Test.{Test}
use Rattle.lit_test.specs.declared.trial.Trial.{Trial}
use Rattle.lit_claims.specs.Counted.{count_below}
use Rattle.lit_claims.specs.Seats.{IsFresh, claims_id, drawn_by, seat_id, share_of}
use Rattle.lit_claims.specs.declared.claims.ClaimSeat.{ClaimSeat}
use Rattle.lit_round.specs.Hands.{CanRun, IsHandOf, MAX_FIRST, MAX_ROUND, asked_by, all_left, asked_of, begun_below, begun_by, faults_of, rooms_of}
use Rattle.lit_round.specs.Trials.{IsTrialAmong, any_fault, sum_entries}
use Rattle.lit_round.specs.declared.team.Team.{Team}
use Rattle.lit_round.specs.declared.worker.Shared.{Shared}
use Rattle.lit_round.specs.declared.worker.Worked.{Worked}

abbrev pub numbers_of : List Trial → List ℕ
numbers_of trials = map (λ trial. trial.number) trials

-- of a round with so many tests, how many numbers that were drawn name tests below a bound
abbrev pub named_below : ℕ → ℕ → ℕ → List ℕ → ℕ
named_below bound first count drawn = count_below (min (bound - first) count) drawn

-- hands began the tests that the numbers name, and no others
pub record Begins (first count : ℕ) (old new : List Left) (drawn : List ℕ) : Type 0 where
  pub below : (bound : ℕ) → begun_below bound new ≡ begun_below bound old + named_below bound first count drawn
  pub number : begun_by new ≡ begun_by old + count_below count drawn
  pub later : faults_of old ≤ faults_of new

-- all of them were run: these are their trials, and a number past the round was drawn
pub record RunsAll (first count : ℕ) (old new : List Left) (drawn : List ℕ) (trials : List Trial) : Type 0 where
  pub past : count_below count drawn < length drawn
  pub numbers : (bound : ℕ) → count_below bound (numbers_of trials) ≡ named_below bound first count drawn
  pub asked : asked_of new ≡ asked_of old + sum_entries trials
  pub broken : any_fault trials ≡ true → Rose (faults_of old) (faults_of new)
  pub calm : any_fault trials ≡ false → faults_of new ≡ faults_of old

-- Hands of a crew were used by workers who drew these numbers. Each trial is that of a test of the round. If no worker met want of
-- memory, all tests that were drawn were run.
pub record Works {H : Type 0} (runner : OfRunner H) (gave : Gave) (first : ℕ) (tests : List Test) (old new : List H) (drawn : List ℕ)
    (trials : List Trial) (whole : Bool) : Type 0 where
  pub begins : Begins first (length tests) (all_left runner old) (all_left runner new) drawn
  pub room : rooms_of runner new ≡ rooms_of runner old
  pub hands : All (IsHandOf runner gave) new
  pub given : All (IsTrialAmong gave first tests) trials
  pub runs : whole ≡ true → RunsAll first (length tests) (all_left runner old) (all_left runner new) drawn trials

-- a worker did so with its hand
abbrev pub WorksWith : {H : Type 0} → OfRunner H → Shared → H → Worked H → Type 0
WorksWith runner shared hand worked =
    Works runner (runner.gave hand) shared.first shared.tests.now (hand ∷ []) (worked.hand ∷ []) (drawn_by worked.seat)
    worked.trials.items worked.whole

-- ---- jobs

-- a worker may begin: it has a hand with room for the tests of the round, and a seat of its claims that drew nothing
pub record HasJob {H : Type 0} (runner : OfRunner H) (shared : Shared) (hand : H) (seat : ClaimSeat) : Type 0 where
  pub own : seat_id seat ≡ claims_id shared.claims.now
  pub fresh : drawn_by seat ≡ []
  pub few : length shared.tests.now ≤ MAX_ROUND
  pub first : shared.first ≤ MAX_FIRST
  pub fit : CanRun runner (runner.gave hand) (length shared.tests.now) hand
  pub low : runner.asked hand < 2 ^ 62

-- workers may begin: each has a hand of the crew and a seat
pub record HaveJobs {H : Type 0} (runner : OfRunner H) (gave : Gave) (shared : Shared) (hands : List H) (seats : List ClaimSeat)
    : Type 0 where
  pub own : All (IsFresh (claims_id shared.claims.now)) seats
  pub same : length seats ≡ length hands
  pub some : 0 < length hands
  pub few : length shared.tests.now ≤ MAX_ROUND
  pub first : shared.first ≤ MAX_FIRST
  pub fit : All (CanRun runner gave (length shared.tests.now)) hands
  pub low : asked_by runner hands < 2 ^ 62

-- workers did their work, and this seat has what they drew
pub record DidJobs {H : Type 0} (runner : OfRunner H) (gave : Gave) (shared : Shared) (old : List H) (seats : List ClaimSeat)
    (new : List H) (seat : ClaimSeat) (trials : List Trial) (whole : Bool) : Type 0 where
  pub own : seat_id seat ≡ claims_id shared.claims.now
  pub share : share_of seat ≡ sum_by share_of seats
  pub works : Works runner gave shared.first shared.tests.now old new (drawn_by seat) trials whole

-- the trials of a team stand before those of a worker
abbrev pub TrialsJoin : {H : Type 0} → Team H → Worked H → Team H → Type 0
TrialsJoin team worked both = both.trials.items ≡ team.trials.items ++ worked.trials.items

-- memory was enough for both, and so for the trials of both
abbrev pub AreBothWhole : {H : Type 0} → Team H → Worked H → Team H → Type 0
AreBothWhole team worked both = (team.whole ≡ true) × (worked.whole ≡ true) × TrialsJoin team worked both

-- one worker did
abbrev pub WorkerDid : {H : Type 0} → OfRunner H → Shared → H → ClaimSeat → Worked H → Type 0
WorkerDid runner shared hand seat worked =
    DidJobs runner (runner.gave hand) shared (hand ∷ []) (seat ∷ []) (worked.hand ∷ []) worked.seat worked.trials.items worked.whole

-- a team did, by as many hands in a list of the same room
abbrev pub TeamDid : {H : Type 0} → OfRunner H → Gave → Shared → Vec H Global → Vec ClaimSeat Global → Team H → Type 0
TeamDid runner gave shared hands seats team =
    DidJobs runner gave shared hands.items seats.items team.hands.items team.seat team.trials.items team.whole
    × (vec_len team.hands ≡ vec_len hands) × (vec_capacity team.hands ≡ vec_capacity hands)
