-- What hands did in the rounds so far (`Went`): at first nothing, then what the next round adds (`next_went`). `left_at_end` is what is promised
-- at the end, `next_left` what is promised where memory was wanting in a round, `next_refused` where a trial was refused behind it. What was
-- begun is counted below each bound; so each test is found to have been begun once (`begins_first`).
use Rattle.std.proofs.Common.{◌≡◌, ◌+◌, ◌-◌, ◌*◌, ◌^◌, ◌%◌, ◌≤◌, ◌<◌, ◌||◌, ◌∙◌, inl, inr, ℕ, true, false, true≢false, min, List, [], ◌∷◌, ◌++◌, length, map, get_or, replicate, slice_get, take, drop, None, Some, refl, sym, ap, subst, arith}
use Rattle.std.proofs.lemmas.Bool.{or_cases, or_parts}
use Rattle.std.proofs.lemmas.Bool.Decides.{nat_tests}
use Rattle.std.proofs.lemmas.List.{append-nil, get_or-map, get_or-replicate, length-append, length-map, length-drop, length-replicate, length-take, take-append-drop}
use Rattle.std.proofs.lemmas.Option.{slice_get_within}
use Rattle.std.proofs.lemmas.List.Folds.{fold-map, sum_by-replicate}
use Rattle.std.proofs.lemmas.List.Sums.{get_or-le-sum_by, sum_by-cons}
use Rattle.std.specs.List.{All}
use Rattle.std.specs.Option.{option_to_list}
use Rattle.tt_outside.specs.Faults.{Rose}
use Rattle.tt_outside.specs.Gave.{Gave}
use Rattle.tt_outside.specs.declared.crew.Left.{Left}
use Rattle.tt_outside.specs.declared.crew.Runner.{Ghosts as OfRunner}
use Rattle.tt_outside.specs.declared.test_data.Test.{Test}
use Rattle.lit_test.specs.declared.trial.Trial.{Trial}
use Rattle.lit_claims.specs.Counted.{count_below, count_of}
use Rattle.lit_claims.proofs.Counts.{count_between}
use Rattle.lit_round.specs.Hands.{CanRun, IsHandOf, all_left, asked_by, asked_of, begun_below, begun_by, faults_of, left, room_of, rooms_of}
use Rattle.lit_round.specs.Round.{BeginsUpTo, RunsRound}
use Rattle.lit_round.specs.Trials.{AreTrials, any_fault, sum_entries}
use Rattle.lit_round.proofs.TrialLemmas.{entries_both, fault_either}
use Rattle.lit_pool.specs.Crew.{BeginsFirst, LeftAtEnd, LeftAtStop, begun_of, nothing_left}
use Rattle.lit_desk.specs.declared.stop.DeskStop.{DeskStop}
use Rattle.lit_pool.specs.Pool.{returned, stop_at}
use Rattle.lit_pool.specs.declared.stop.PoolStop.{PoolStop}
use Rattle.lit_pool.proofs.RunLemmas.{front_of, part_on, stop_parts, trials_both, trials_long}

-- in the rounds before a test, of so many in all, hands began all tests before it
pub record Went (workers tests first : ℕ) (trials : List Trial) (hands : List Left) : Type 0 where
  pub count : length hands ≡ workers
  pub even : first < tests → first % 256 ≡ 0
  pub long : length trials ≡ first
  pub below : (bound : ℕ) → begun_below bound hands ≡ min bound first
  pub number : begun_by hands ≡ first
  pub asked : asked_of hands ≡ sum_entries trials
  pub few : sum_entries trials ≤ first * 2 ^ 24
  pub broken : any_fault trials ≡ true → Rose 0 (faults_of hands)
  pub calm : any_fault trials ≡ false → faults_of hands ≡ 0

pub went_first : (workers tests : ℕ) (hands : List Left) → hands ≡ replicate workers nothing_left → Went workers tests 0 [] hands
went_first workers tests hands fresh = rw fresh (record {
  count = length-replicate workers nothing_left;
  even = λ some. refl;
  long = refl;
  below = λ bound. let sum = sum_by-replicate (λ (h : Left). count_below bound h.begun) workers nothing_left in omega arith;
  number = let sum = sum_by-replicate (λ (h : Left). length h.begun) workers nothing_left in omega arith;
  asked = let sum = sum_by-replicate (λ (h : Left). h.asked) workers nothing_left in omega arith;
  few = omega arith;
  broken = λ any. absurd (true≢false (sym any));
  calm = λ none. let sum = sum_by-replicate (λ (h : Left). h.faults) workers nothing_left in omega arith;
})

-- ---- what hands began, in the words of how often

begun_between : (y : ℕ) (hands : List Left) → begun_of y hands + begun_below y hands ≡ begun_below (y + 1) hands
begun_between y [] = refl
begun_between y (h ∷ hands) =
    let of = sum_by-cons (λ (k : Left). count_of y k.begun) h hands in
    let below = sum_by-cons (λ (k : Left). count_below y k.begun) h hands in
    let next = sum_by-cons (λ (k : Left). count_below (y + 1) k.begun) h hands in
    let here = count_between y h.begun in
    let rest = begun_between y hands in omega arith

begins_first : (tests : ℕ) (hands : List Left) → ((bound : ℕ) → begun_below bound hands ≡ min bound tests) → begun_by hands ≡ tests
    → BeginsFirst tests hands
begins_first tests hands below number = record {
  once = λ y. let between = begun_between y hands in
      let here = below y in
      let next = below (y + 1) in grind (arith, nat_tests);
  number = number;
}

-- ---- a round

-- the next round: its tests are those behind the first ones
module _ (workers : ℕ) (tests part : List Test) (first count : ℕ) (xs : List Trial) (old new : List Left)
    (w : Went workers (length tests) first xs old) (some : first < length tests) (is : count ≡ min (length tests - first) 256)
    (part_is : part ≡ take count (drop first tests)) (b : BeginsUpTo first (length part) old new) (same : length new ≡ length old) where
  part_long : length part ≡ count
  part_long =
      let long = ap length part_is ∙ length-take count (drop first tests) in
      let behind = length-drop first tests in omega arith

  -- memory was wanting in the round, or behind it
  pub next_left : (stop : PoolStop) → stop.trials ≡ xs → stop.other ≡ None → LeftAtStop workers (length tests) stop new
  next_left stop put none =
      let all : returned stop ≡ xs = ap (λ o. stop.trials ++ option_to_list o) none ∙ append-nil stop.trials ∙ put in
      let long = ap length all ∙ w.long in
      let many = ap length put ∙ w.long in
      let even = w.even some in
      let round = part_long in
      record {
        count = let n = w.count in omega arith;
        all = λ why. same ∙ w.count;
        some = first + min (length part) b.drawn;
        begun = begins_first (first + min (length part) b.drawn) new
            (λ bound. let was = w.below bound in let more = b.below bound in omega arith)
            (let was = w.number in let more = b.number in omega arith);
        least = omega arith;
        within = omega arith;
        most = omega arith;
        broken = λ any. let rose = w.broken (ap any_fault (sym all) ∙ any) in let later = b.later in omega arith;
      }

  module _ (gave : Gave) (ys : List Trial) (r : RunsRound gave first part old new ys) where
    pub next_long : length ys ≡ count
    next_long = trials_long gave first part ys r.are ∙ part_long

    pub next_went : Went workers (length tests) (first + count) (xs ++ ys) new
    next_went =
        let entries = entries_both xs ys in
        let round = part_long in
        record {
          count = same ∙ w.count;
          even = λ more. let even = w.even some in omega arith;
          long = let all = length-append xs ys in let was = w.long in let here = next_long in omega arith;
          below = λ bound. let was = w.below bound in let more = r.below bound in omega arith;
          number = let was = w.number in let more = r.number in omega arith;
          asked = let was = w.asked in let more = r.asked in omega arith;
          few = let was = w.few in let more = r.few in omega arith;
          broken = λ any. elim (or_cases (any_fault xs) (any_fault ys) (sym (fault_either xs ys) ∙ any)) [
            | inl here ↦ omega (arith, b.later, w.broken here)
            | inr here ↦ omega (arith, b.later, r.broken here)
          ];
          calm = λ none. let both = or_parts (any_fault xs) (any_fault ys) (sym (fault_either xs ys) ∙ none) in
              r.calm both.1 ∙ w.calm both.0;
        }

    pub next_are : AreTrials gave 0 (take first tests) xs → AreTrials gave 0 (take (first + count) tests) (xs ++ ys)
    next_are are =
        let long : first ≡ 0 + length xs = (let was = w.long in omega arith) in
        subst (λ ts. AreTrials gave 0 ts (xs ++ ys)) (part_on first count tests)
        (trials_both gave 0 first (take first tests) (take count (drop first tests)) xs ys long are
        (subst (λ ts. AreTrials gave first ts ys) part_is r.are))

    -- the desk refused one of its trials
    pub next_refused : (k : ℕ) (why : DeskStop) (other : Trial) (stop : PoolStop) → slice_get ys k ≡ Some other
        → stop ≡ stop_at (xs ++ ys) (first + k) why → LeftAtStop workers (length tests) stop new
    next_refused k why other stop at stops =
        let went = next_went in
        let all = xs ++ ys in
        let even = w.even some in
        let here = next_long in
        let low = slice_get_within ys k other at in
        let parts = stops ∙ stop_parts first k xs ys why other w.long at in
        let front = ap (λ s. length s.trials) parts ∙ length-append xs (take k ys) in
        let taken = length-take k ys in
        let put = ap returned parts ∙ sym (front_of first k xs ys other w.long at) in
        record {
          count = let n = went.count in omega arith;
          all = λ why. went.count;
          some = first + count;
          begun = begins_first (first + count) new went.below went.number;
          least = let long = ap length put ∙ length-take (first + k + 1) all in omega arith;
          within = omega arith;
          most = let long = w.long in omega arith;
          broken = λ any. went.broken (ap any_fault (sym (take-append-drop (first + k + 1) all))
              ∙ fault_either (take (first + k + 1) all) (drop (first + k + 1) all)
              ∙ ap (λ p. p || any_fault (drop (first + k + 1) all)) (ap any_fault (sym put) ∙ any));
        }

pub left_at_end : (workers tests first : ℕ) (trials : List Trial) (hands : List Left) → first ≡ tests → Went workers tests first trials hands
    → LeftAtEnd workers tests trials hands
left_at_end workers tests first trials hands is w = record {
  count = w.count;
  begun = subst (λ n. BeginsFirst n hands) is (begins_first first hands w.below w.number);
  asked = w.asked;
  broken = w.broken;
  calm = w.calm;
}

-- ---- hands that run a round

module _ {H : Type 0} (runner : OfRunner H) where
  -- what they asked, hand by hand
  pub asked_same : (hands : List H) → asked_by runner hands ≡ asked_of (all_left runner hands)
  asked_same hands = sym (fold-map (λ n (h : Left). n + h.asked) (left runner) 0 hands)

  -- each has room for a round, since it began no more tests than all did
  pub can_run : (gave : Gave) (workers tests first count : ℕ) (hands : List H) → length hands ≡ workers
      → rooms_of runner hands ≡ replicate workers tests → begun_by (all_left runner hands) ≡ first
      → first + count ≤ tests → All (IsHandOf runner gave) hands → All (CanRun runner gave count) hands
  can_run gave workers tests first count hands many room began within own k d low =
      let n = length-map hands (room_of runner) in
      let here = sym (get_or-map (room_of runner) hands k d tests low) ∙ ap (λ ns. get_or ns k tests) room
      ∙ get_or-replicate workers k tests tests (omega arith) in
      let most = get_or-le-sum_by (λ h. length (runner.begun h)) hands k d low in
      let sum = fold-map (λ m (h : Left). m + length h.begun) (left runner) 0 hands in
      (omega arith, own k d low)

-- hands that stay as many
pub hands_same : {H : Type 0} (f : H → ℕ) (g : H → Left) (old new : List H) → map f new ≡ map f old → length (map g new) ≡ length (map g old)
hands_same f g old new same =
    length-map new g ∙ sym (length-map new f) ∙ ap length same ∙ length-map old f ∙ sym (length-map old g)
