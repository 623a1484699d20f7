-- A round behind which one seat has all that was drawn: what the hands began is counted by it, and where a number past the round was
-- drawn, all tests were begun. Sorted by number, the trials are those of the tests in order. The hard one is `runs_round`: the numbers
-- of the trials are the round's, since as many of them lie below each bound.
use Rattle.std.proofs.Common.{◌≡◌, ◌+◌, ◌-◌, ◌<◌, ◌∙◌, ℕ, min, List, length, slice_get, sym, ap, subst, arith}
use Rattle.std.proofs.lemmas.List.{length-map}
use Rattle.std.proofs.lemmas.List.FromFn.{length-range_with_len}
use Rattle.std.proofs.lemmas.List.Sorted.{All-permutation, IsPermutation-map, list_any-IsPermutation, sum_by-IsPermutation}
use Rattle.std.specs.List.{All, range_with_len}
use Rattle.std.specs.List.Sorted.{IsNonDecreasingBy, IsPermutation}
use Rattle.tt_outside.specs.Gave.{Gave}
use Rattle.tt_outside.specs.declared.crew.Left.{Left}
use Rattle.tt_outside.specs.declared.test_data.Test.{Test}
use Rattle.test_course.specs.Played.{any_broken}
use Rattle.lit_test.specs.declared.trial.Trial.{Trial}
use Rattle.lit_claims.specs.Claimed.{Drawn}
use Rattle.lit_round.specs.Round.{BeginsUpTo, RunsRound}
use Rattle.lit_round.specs.Trials.{AreTrials, IsTrialAmong}
use Rattle.lit_round.specs.Work.{Begins, RunsAll}
use Rattle.lit_round.proofs.OrderLemmas.{are_of, in_order}
use Rattle.lit_round.proofs.TrialLemmas.{few_entries}

module _ (first : ℕ) (tests : List Test) (old new : List Left) (w : ℕ) (drawn : List ℕ) (b : Begins first (length tests) old new drawn) (d : Drawn w drawn) where
  pub begins_up_to : BeginsUpTo first (length tests) old new
  begins_up_to = record {
    drawn = w;
    below = λ bound. let all = b.below bound in let named = d.below (min (bound - first) (length tests)) in omega arith;
    number = let all = b.number in let named = d.below (length tests) in omega arith;
    later = b.later;
  }

  pub runs_round : (gave : Gave) (ran trials : List Trial) → All (IsTrialAmong gave first tests) ran
      → RunsAll first (length tests) old new drawn ran → IsPermutation ran trials → IsNonDecreasingBy (λ t. t.number) trials
      → RunsRound gave first tests old new trials
  runs_round gave ran trials given r moved sorted =
      let count : ℕ = length tests in
      let named = d.below count in
      let over : count < w = omega (arith, r.past, d.count, named) in
      let shorter : (bound : ℕ) → min (min (bound - first) count) w ≡ min (bound - first) count = (λ bound. omega (arith, over)) in
      let among = All-permutation (IsTrialAmong gave first tests) ran trials moved given in
      let numbers = in_order (λ (t : Trial). t.number) first count trials sorted
      (λ bound. sum_by-IsPermutation _ _ _ (IsPermutation-map (λ (t : Trial). t.number) ran trials moved) ∙ r.numbers bound
      ∙ d.below (min (bound - first) count) ∙ shorter bound) in
      let long = sym (length-map trials (λ (t : Trial). t.number)) ∙ ap length numbers ∙ length-range_with_len first count in
      let here : first ≡ first + 0 = omega arith in
      let fault = list_any-IsPermutation (λ (t : Trial). any_broken t.entries) ran trials moved in
      record {
        are = subst (λ n. AreTrials gave n tests trials) (sym here) (are_of gave first 0 tests tests trials (λ i. let zero : 0 + i ≡ i = omega arith in ap (slice_get tests) zero)
            (numbers ∙ ap (λ n. range_with_len n count) here) among);
        below = λ bound. let all = b.below bound in let low = d.below (min (bound - first) count) in omega arith;
        number = let all = b.number in omega arith;
        asked = omega (arith, r.asked, sum_by-IsPermutation (λ (t : Trial). length t.entries) ran trials moved);
        few = let few = few_entries gave first tests trials among in omega arith;
        broken = λ any. r.broken (fault ∙ any);
        calm = λ none. r.calm (fault ∙ none);
      }
