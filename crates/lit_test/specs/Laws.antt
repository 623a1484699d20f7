-- A law of trials.
use Rattle.std.specs.Prelude.{◌≡◌, ℕ, List, []}
use Rattle.tt_outside.specs.Gave.{Gave, IsSteady}
use Rattle.tt_outside.specs.declared.request.Entry.{Entry}
use Rattle.tt_outside.specs.declared.test_data.Test.{Test}
use Rattle.test_course.specs.Entries.{AreGiven}
use Rattle.lit_test.specs.Trial.{IsTrial}
use Rattle.test_outcome.specs.declared.outcome.Outcome.{Outcome}

-- Law: a steady crew gives a test one trial at most.
abbrev pub IsOneTrial : Gave → Type 0
IsOneTrial gave = IsSteady gave → (number : ℕ) (test : Test) (entries others : List Entry) (result second : Outcome)
    (text other : List ℕ) → AreGiven gave number [] entries → AreGiven gave number [] others
    → IsTrial test entries result text → IsTrial test others second other
    → (entries ≡ others) × (result ≡ second) × (text ≡ other)
