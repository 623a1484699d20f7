-- A round of tests.
-- Own rule: all tests of a round are begun before it ends, unless memory is wanting; then some are.
use Rattle.std.specs.Prelude.{ℕ, ◌≡◌, ◌+◌, ◌-◌, ◌*◌, ◌^◌, ◌≤◌, min, true, false, List, length}
use Rattle.tt_outside.specs.Faults.{Rose}
use Rattle.tt_outside.specs.Gave.{Gave}
use Rattle.tt_outside.specs.declared.crew.Left.{Left}
use Rattle.tt_outside.specs.declared.crew.Runner.{Ghosts as OfRunner}
use Rattle.tt_outside.specs.declared.test_data.Test.{Test}
use Rattle.lit_test.specs.declared.trial.Trial.{Trial}
use Rattle.lit_round.specs.Hands.{all_left, asked_of, begun_below, begun_by, faults_of}
use Rattle.lit_round.specs.Trials.{AreTrials, any_fault, sum_entries}

-- Hands began some first tests of a round, each once: so many were drawn.
pub record BeginsUpTo (first count : ℕ) (old new : List Left) : Type 0 where
  pub drawn : ℕ
  pub below : (bound : ℕ) → begun_below bound new ≡ begun_below bound old + min (min (bound - first) count) drawn
  pub number : begun_by new ≡ begun_by old + min count drawn
  pub later : faults_of old ≤ faults_of new

-- Hands ran a round: each test was begun once, and there is a trial of each, in order. They answered what the trials' entries say, and
-- counted a fault where a reply is one, and else none.
pub record RunsRound (gave : Gave) (first : ℕ) (tests : List Test) (old new : List Left) (trials : List Trial) : Type 0 where
  pub are : AreTrials gave first tests trials
  pub below : (bound : ℕ) → begun_below bound new ≡ begun_below bound old + min (bound - first) (length tests)
  pub number : begun_by new ≡ begun_by old + length tests
  pub asked : asked_of new ≡ asked_of old + sum_entries trials
  pub few : sum_entries trials ≤ length tests * 2 ^ 24
  pub broken : any_fault trials ≡ true → Rose (faults_of old) (faults_of new)
  pub calm : any_fault trials ≡ false → faults_of new ≡ faults_of old

-- ---- the same of the hands themselves

abbrev pub HandsBegin : {H : Type 0} → OfRunner H → ℕ → List Test → List H → List H → Type 0
HandsBegin runner first tests old new = BeginsUpTo first (length tests) (all_left runner old) (all_left runner new)

abbrev pub HandsRun : {H : Type 0} → OfRunner H → Gave → ℕ → List Test → List H → List H → List Trial → Type 0
HandsRun runner gave first tests old new trials = RunsRound gave first tests (all_left runner old) (all_left runner new) trials
