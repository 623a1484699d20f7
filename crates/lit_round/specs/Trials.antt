-- The trials of tests.
-- Own rule: a test's number is its place among those that are run.
use Rattle.std.specs.Prelude.{◌≡◌, ℕ, ◌+◌, ◌≤◌, ◌^◌, Bool, List, [], ◌∷◌, length, slice_get, Some}
use Rattle.std.specs.List.{list_any, sum_by}
use Rattle.tt_outside.specs.Gave.{Gave}
use Rattle.tt_outside.specs.declared.test_data.Test.{Test}
use Rattle.test_course.specs.Entries.{AreGiven}
use Rattle.test_course.specs.Played.{any_broken}
use Rattle.lit_test.specs.Trial.{IsTrial}
use Rattle.lit_test.specs.declared.trial.Trial.{Trial}

-- a trial is that of a test under a number, from replies that were given
pub record IsTrialOf (gave : Gave) (place : ℕ) (its : Test) (trial : Trial) : Type 0 where
  pub number : trial.number ≡ place
  pub test : trial.test ≡ its
  pub shows : IsTrial its trial.entries trial.result trial.text
  pub given : AreGiven gave place [] trial.entries

-- one trial for each test, in order; the first test has this number
abbrev pub AreTrials : Gave → ℕ → List Test → List Trial → Type 0
AreTrials gave place [] [] = Unit {0}
AreTrials gave place [] (trial ∷ trials) = ⊥
AreTrials gave place (test ∷ tests) [] = ⊥
AreTrials gave place (test ∷ tests) (trial ∷ trials) =
    IsTrialOf gave place test trial × AreTrials gave (place + 1) tests trials

-- a trial is that of one of these tests, the first of which has this number
pub record IsTrialAmong (gave : Gave) (first : ℕ) (tests : List Test) (trial : Trial) : Type 0 where
  pub place : ℕ
  pub its : Test
  pub at : slice_get tests place ≡ Some its
  pub is : IsTrialOf gave (first + place) its trial
  pub few : length trial.entries ≤ 2 ^ 24

-- how many entries trials have
abbrev pub sum_entries : List Trial → ℕ
sum_entries trials = sum_by (λ trial. length trial.entries) trials

-- whether one of their replies is a fault of the outside
abbrev pub any_fault : List Trial → Bool
any_fault trials = list_any (λ trial. any_broken trial.entries) trials
