-- Lists of trials that grow, and what they tell of entries, numbers and faults: of two lists put together (`numbers_both`,
-- `entries_both`, `fault_either`), and of one more trial (`broken_on`, `calm_on`), where faults of the outside are counted before,
-- between and behind. None is hard: each is a sum, a map or an `any` over lists that are put together.
use Rattle.std.proofs.Common.{◌≡◌, ◌+◌, ◌*◌, ◌^◌, ◌≤◌, ◌||◌, ◌∙◌, ℕ, true, false, inl, inr, List, [], ◌∷◌, ◌++◌, length, sym, ap, arith}
use Rattle.std.proofs.Math.Bool.{or-false}
use Rattle.std.proofs.lemmas.Bool.{or_cases, or_parts}
use Rattle.std.proofs.lemmas.List.{map-append}
use Rattle.std.proofs.lemmas.List.Elements.{All-weaker}
use Rattle.std.proofs.lemmas.List.Folds.{list_any-append}
use Rattle.std.proofs.lemmas.List.Sums.{sum_by-append, sum_by-le}
use Rattle.std.specs.List.{All}
use Rattle.tt_outside.specs.Faults.{Rose}
use Rattle.tt_outside.specs.Gave.{Gave, SameGave}
use Rattle.tt_outside.specs.declared.test_data.Test.{Test}
use Rattle.test_course.specs.Played.{any_broken}
use Rattle.test_course.proofs.EntryLemmas.{AreGiven_same}
use Rattle.lit_test.specs.declared.trial.Trial.{Trial}
use Rattle.lit_round.specs.Trials.{IsTrialAmong, any_fault, sum_entries}
use Rattle.lit_round.specs.Work.{numbers_of}

pub numbers_both : (one other : List Trial) → numbers_of (one ++ other) ≡ numbers_of one ++ numbers_of other
numbers_both one other = map-append (λ (t : Trial). t.number) one other

pub entries_both : (one other : List Trial) → sum_entries (one ++ other) ≡ sum_entries one + sum_entries other
entries_both one other = sum_by-append (λ (t : Trial). length t.entries) one other

-- trials of the tests of a round have few entries
pub few_entries : (gave : Gave) (first : ℕ) (tests : List Test) (trials : List Trial) → All (IsTrialAmong gave first tests) trials
    → sum_entries trials ≤ length trials * 2 ^ 24
few_entries gave first tests trials among =
    sum_by-le (λ (t : Trial). length t.entries) (2 ^ 24) trials
    (All-weaker (IsTrialAmong gave first tests) (λ t. length t.entries ≤ 2 ^ 24) (λ t is. is.few) trials among)

-- of a crew that gives the same
pub among_same : (one two : Gave) → SameGave one two → (first : ℕ) (tests : List Test) (trial : Trial)
    → IsTrialAmong one first tests trial → IsTrialAmong two first tests trial
among_same one two same first tests trial t = record {
  place = t.place;
  its = t.its;
  at = t.at;
  is = record {
    number = t.is.number;
    test = t.is.test;
    shows = t.is.shows;
    given = AreGiven_same one two same (first + t.place) [] trial.entries t.is.given;
  };
  few = t.few;
}

-- ---- faults

pub fault_either : (one other : List Trial) → any_fault (one ++ other) ≡ (any_fault one || any_fault other)
fault_either one other = list_any-append (λ (t : Trial). any_broken t.entries) one other

fault_on : (xs : List Trial) (x : Trial) → any_fault (xs ++ x ∷ []) ≡ (any_fault xs || any_broken x.entries)
fault_on xs x = fault_either xs (x ∷ []) ∙ ap (λ b. any_fault xs || b) (or-false (any_broken x.entries))

pub broken_on : (before mid now : ℕ) (xs : List Trial) (x : Trial) → before ≤ mid → mid ≤ now
    → (any_fault xs ≡ true → Rose before mid) → (any_broken x.entries ≡ true → Rose mid now)
    → any_fault (xs ++ x ∷ []) ≡ true → Rose before now
broken_on before mid now xs x first next was is any =
    elim (or_cases (any_fault xs) (any_broken x.entries) (sym (fault_on xs x) ∙ any)) [
      | inl here ↦ omega (arith, next, was here)
      | inr here ↦ omega (arith, first, is here)
    ]

pub calm_on : (before mid now : ℕ) (xs : List Trial) (x : Trial) → (any_fault xs ≡ false → mid ≡ before)
    → (any_broken x.entries ≡ false → now ≡ mid) → any_fault (xs ++ x ∷ []) ≡ false → now ≡ before
calm_on before mid now xs x was is none =
    let both = or_parts (any_fault xs) (any_broken x.entries) (sym (fault_on xs x) ∙ none) in is both.1 ∙ was both.0
