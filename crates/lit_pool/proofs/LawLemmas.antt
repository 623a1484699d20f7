-- A steady crew gives each test one trial, and a trial is told by its number, its test, its entries, its result and its
-- transcript; so there is one list of trials.
use Rattle.std.proofs.Common.{◌≡◌, ◌+◌, ◌*◌, ◌^◌, ◌≤◌, ◌∙◌, ℕ, List, [], ◌∷◌, refl, sym, ap}
use Rattle.std.proofs.Props.{props}
use mathlib.Core.HLevel.{is_prop→PathP}
use Rattle.tt_outside.specs.Gave.{Gave, IsSteady}
use Rattle.tt_outside.specs.declared.request.Entry.{Entry}
use Rattle.tt_outside.specs.declared.test_data.Test.{Test}
use Rattle.test_course.specs.Bytes.{kept_behind}
use Rattle.test_outcome.specs.declared.outcome.Outcome.{Outcome}
use Rattle.lit_test.specs.Trial.{ending_of}
use Rattle.lit_test.specs.declared.trial.Trial.{Trial}
use Rattle.lit_test.proofs.LawLemmas.{one_trial}
use Rattle.lit_round.specs.Trials.{AreTrials}

outcome_prop : (test : Test) (entries : List Entry) (result : Outcome) → IsProp ((ending_of test entries).outcome ≡ result)
outcome_prop test entries result = Prim.hlevel props

text_prop : (test : Test) (entries : List Entry) (text : List ℕ) → IsProp ((ending_of test entries).text ≡ text)
text_prop test entries text = Prim.hlevel props

light_prop : (entries : List Entry) → IsProp (kept_behind 0 entries ≤ 3 * 2 ^ 23)
light_prop entries = Prim.hlevel props

-- trials with equal fields are equal
equal_trials : (one other : Trial) → one.number ≡ other.number → one.test ≡ other.test → one.entries ≡ other.entries
    → one.result ≡ other.result → one.text ≡ other.text → one ≡ other
equal_trials one other number test entries result text =
    λ i. record {
      number = number i;
      test = test i;
      entries = entries i;
      result = result i;
      text = text i;
      ended = is_prop→PathP (λ j. (ending_of (test j) (entries j)).outcome ≡ result j)
          (λ j. outcome_prop (test j) (entries j) (result j)) one.ended other.ended i;
      told = is_prop→PathP (λ j. (ending_of (test j) (entries j)).text ≡ text j)
          (λ j. text_prop (test j) (entries j) (text j)) one.told other.told i;
      light = is_prop→PathP (λ j. kept_behind 0 (entries j) ≤ 3 * 2 ^ 23) (λ j. light_prop (entries j)) one.light other.light i;
    }

pub one_run : (gave : Gave) → IsSteady gave → (place : ℕ) (tests : List Test) (one other : List Trial)
    → AreTrials gave place tests one → AreTrials gave place tests other → one ≡ other
one_run gave steady place [] [] [] first second = refl
one_run gave steady place [] [] (y ∷ ys) first second = absurd second
one_run gave steady place [] (x ∷ xs) other first second = absurd first
one_run gave steady place (test ∷ tests) [] other first second = absurd first
one_run gave steady place (test ∷ tests) (x ∷ xs) [] first second = absurd second
one_run gave steady place (test ∷ tests) (x ∷ xs) (y ∷ ys) (x_is, xs_are) (y_is, ys_are) =
    let (entries, result, text) =
    one_trial gave steady place test x.entries y.entries x.result y.result x.text y.text x_is.given y_is.given x_is.shows
    y_is.shows in
    let same : x ≡ y =
    equal_trials x y (x_is.number ∙ sym y_is.number) (x_is.test ∙ sym y_is.test) entries result text in
    ap (λ (t : Trial). t ∷ xs) same ∙ ap (λ ts. y ∷ ts) (one_run gave steady (place + 1) tests xs ys xs_are ys_are)
