-- A steady crew gives a test one list of entries, and these tell its result and its transcript.
use Rattle.std.proofs.Common.{◌≡◌, ◌∙◌, ℕ, List, [], sym, ap}
use Rattle.tt_outside.specs.Gave.{Gave, IsSteady}
use Rattle.tt_outside.specs.declared.request.Entry.{Entry}
use Rattle.tt_outside.specs.declared.test_data.Test.{Test}
use Rattle.test_course.specs.Entries.{AreGiven}
use Rattle.test_course.proofs.LawLemmas.{one_list}
use Rattle.lit_test.specs.Trial.{IsTrial, course_of, ending_of}
use Rattle.test_outcome.specs.declared.outcome.Outcome.{Outcome}

pub one_trial : (gave : Gave) → IsSteady gave → (number : ℕ) (test : Test) (entries others : List Entry)
    (result second : Outcome) (text other : List ℕ) → AreGiven gave number [] entries → AreGiven gave number [] others
    → IsTrial test entries result text → IsTrial test others second other
    → (entries ≡ others) × (result ≡ second) × (text ≡ other)
one_trial gave steady number test entries others result second text other given too one two =
    let same : entries ≡ others =
    one_list gave steady number 0 (course_of test) [] entries others given too one.trace two.trace in (
      same,
      sym one.ended ∙ ap (λ (es : List Entry). (ending_of test es).outcome) same ∙ two.ended,
      sym one.told ∙ ap (λ (es : List Entry). (ending_of test es).text) same ∙ two.told,
    )
