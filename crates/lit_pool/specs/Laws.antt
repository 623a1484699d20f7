-- A law of runs.
use Rattle.std.specs.Prelude.{◌≡◌, ℕ, List}
use Rattle.tt_outside.specs.Gave.{Gave, IsSteady}
use Rattle.tt_outside.specs.declared.test_data.Test.{Test}
use Rattle.lit_test.specs.declared.trial.Trial.{Trial}
use Rattle.lit_round.specs.Trials.{AreTrials}

-- Law: a steady crew gives tests one list of trials at most.
abbrev pub IsOneRun : Gave → Type 0
IsOneRun gave = IsSteady gave → (place : ℕ) (tests : List Test) (one other : List Trial)
    → AreTrials gave place tests one → AreTrials gave place tests other → one ≡ other
