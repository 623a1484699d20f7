-- The trials of a run are those of its tests, so a report that can tell of these can tell of the trials.
use Rattle.std.proofs.Common.{◌≡◌, ℕ, ◌+◌, true, List, [], ◌∷◌, map, refl, sym, subst}
use Rattle.tt_outside.specs.Gave.{Gave}
use Rattle.tt_outside.specs.declared.test_data.Test.{Test}
use Rattle.lit_words.specs.declared.asked.Detail.{Detail}
use Rattle.lit_json.specs.Trials.{test_of}
use Rattle.lit_test.specs.declared.trial.Trial.{Trial}
use Rattle.lit_round.specs.Trials.{AreTrials}
use Rattle.run_report.specs.Run.{are_told}

tests_of : (gave : Gave) (place : ℕ) (tests : List Test) (trials : List Trial) → AreTrials gave place tests trials
    → map test_of trials ≡ tests
tests_of gave place [] [] are = refl
tests_of gave place [] (trial ∷ trials) are = absurd are
tests_of gave place (test ∷ tests) [] are = absurd are
tests_of gave place (test ∷ tests) (trial ∷ trials) (is, more) =
    let rest = tests_of gave (place + 1) tests trials more in
    λ i. is.test i ∷ rest i

pub trials_told : (gave : Gave) (detail : Detail) (tests : List Test) (trials : List Trial) → AreTrials gave 0 tests trials
    → are_told detail tests ≡ true → are_told detail (map test_of trials) ≡ true
trials_told gave detail tests trials are told =
    subst (λ (ts : List Test). are_told detail ts ≡ true) (sym (tests_of gave 0 tests trials are)) told
