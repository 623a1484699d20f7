-- What workers did adds up: of one worker from the numbers that it drew (`works_by`), of a worker and others together (`works_both`),
-- field by field, since each is a sum over lists that are put together. `Counts` keeps, test by test, that the numbers begun and the
-- place that is due are those that were drawn (`counts_on`). None is hard.
use Rattle.std.proofs.Common.{◌≡◌, ◌+◌, ◌-◌, ◌≤◌, ◌<◌, ◌&&◌, ◌⊎◌, inl, inr, ◌∙◌, ℕ, Bool, true, false, true≢false, min, nat_lt, if◌then◌else◌, List, [], ◌∷◌, ◌++◌, Some, length, refl, sym, ap, subst, arith, lt_of_not-le}
use Rattle.std.proofs.lemmas.Bool.{and_parts, or_cases, or_parts}
use Rattle.std.proofs.lemmas.Bool.Decides.{nat_tests}
use Rattle.std.proofs.lemmas.List.{append_assoc, length-append, length-map, length_push, map-append}
use Rattle.std.proofs.lemmas.List.Elements.{All-append, All-cons, All-nil, All-pop, All-push, All-weaker}
use Rattle.std.proofs.lemmas.List.Sums.{sum_by-append, sum_by-le-sum_by, sum_by_push}
use Rattle.std.specs.List.{All}
use Rattle.tt_outside.specs.Faults.{Rose}
use Rattle.tt_outside.specs.Gave.{Gave, SameGave}
use Rattle.tt_outside.specs.declared.crew.Left.{Left}
use Rattle.tt_outside.specs.declared.crew.Runner.{Ghosts as OfRunner}
use Rattle.tt_outside.specs.declared.test_data.Test.{Test}
use Rattle.test_course.proofs.PlayedLemmas.{SameGave-trans}
use Rattle.lit_test.specs.declared.trial.Trial.{Trial}
use Rattle.lit_claims.specs.Counted.{count_below}
use Rattle.lit_claims.specs.Seats.{IsFresh, claims_id}
use Rattle.lit_claims.specs.declared.claims.ClaimSeat.{ClaimSeat}
use Rattle.lit_claims.proofs.Counts.{below_all, below_append, below_push}
use Rattle.lit_round.specs.Hands.{CanRun, IsHandOf, all_left, faults_of, left, room_of, rooms_of}
use Rattle.lit_round.specs.Trials.{IsTrialAmong, any_fault, sum_entries}
use Rattle.lit_round.specs.Work.{Begins, HasJob, HaveJobs, RunsAll, Works, named_below, numbers_of}
use Rattle.lit_round.specs.declared.worker.Shared.{Shared}
use Rattle.lit_round.proofs.TrialLemmas.{among_same, entries_both, fault_either, numbers_both}

-- ---- what a worker draws

below_more : (one other : ℕ) (xs : List ℕ) → one ≤ other → count_below one xs ≤ count_below other xs
below_more one other xs more =
    sum_by-le-sum_by (λ n. if nat_lt n one then 1 else 0) (λ n. if nat_lt n other then 1 else 0) xs (λ n. grind (arith, nat_tests))

-- a number that is greater than all before is the last one
pub last_on : (drawn now : List ℕ) (place : ℕ) → now ≡ drawn ++ place ∷ [] → All (λ n. n < place) drawn
    → All (λ n. n < place + 1) now × (count_below place now + 1 ≡ length now)
last_on drawn now place is later =
    subst (λ ns. All (λ n. n < place + 1) ns × (count_below place ns + 1 ≡ length ns)) (sym is) (
      All-push (λ n. n < place + 1) drawn place
          (All-weaker (λ n. n < place) (λ n. n < place + 1) (λ n low. omega arith) drawn later) (omega arith),
      (let long = length-append drawn (place ∷ []) in
          let all = below_all place place drawn (omega arith) later in grind (arith, nat_tests, below_push place drawn place)),
    )

pub rises : (drawn : List ℕ) (place next : ℕ) → count_below place drawn + 1 ≡ length drawn → All (λ n. n < next) drawn → place < next
rises drawn place next last later =
    lt_of_not-le (λ low.
    let more = below_more next place drawn low in absurd (omega (arith, below_all next next drawn (omega arith) later)))

-- the tests that were begun, and the place that is due, are those that were drawn
abbrev pub Counts : ℕ → ℕ → ℕ → List ℕ → List Trial → Type 0
Counts first count place drawn trials =
    ((bound : ℕ) → count_below bound (numbers_of trials) + (if nat_lt place (min (bound - first) count) then 1 else 0)
    ≡ named_below bound first count drawn)
    × (length trials + (if nat_lt place count then 1 else 0) ≡ count_below count drawn)

-- a test of the round was begun
begun_on : (bound first count place : ℕ) (ms : List ℕ) → place < count
    → count_below bound (ms ++ (first + place) ∷ [])
    ≡ count_below bound ms + (if nat_lt place (min (bound - first) count) then 1 else 0)
begun_on bound first count place ms low = let push = below_push bound ms (first + place) in grind (arith, nat_tests)

-- the next place
pub counts_on : (first count place next : ℕ) (drawn now : List ℕ) (trials : List Trial) (trial : Trial) → trial.number ≡ first + place
    → place < count → now ≡ drawn ++ next ∷ [] → Counts first count place drawn trials
    → Counts first count next now (trials ++ trial ∷ [])
counts_on first count place next drawn now trials trial number low is was =
    let all = numbers_both trials (trial ∷ []) ∙ ap (λ n. numbers_of trials ++ n ∷ []) number in
    subst (λ ns. Counts first count next ns (trials ++ trial ∷ [])) (sym is) (
      (λ bound.
          let these = ap (count_below bound) all ∙ begun_on bound first count place (numbers_of trials) low in
          omega (arith, these, below_push (min (bound - first) count) drawn next, was.0 bound)),
      grind (arith, nat_tests, length-append trials (trial ∷ []), below_push count drawn next, was.1),
    )

-- ---- what one worker did

module _ {H : Type 0} (runner : OfRunner H) (first : ℕ) (tests : List Test) where
  works_by : (gave : Gave) (old new : H) (ms drawn : List ℕ) (trials : List Trial) (whole : Bool)
      → runner.begun new ≡ runner.begun old ++ ms
      → ((bound : ℕ) → count_below bound ms ≡ named_below bound first (length tests) drawn) → length ms ≡ count_below (length tests) drawn
      → runner.faults old ≤ runner.faults new → room_of runner new ≡ room_of runner old → IsHandOf runner gave new
      → All (IsTrialAmong gave first tests) trials
      → (whole ≡ true → RunsAll first (length tests) (all_left runner (old ∷ [])) (all_left runner (new ∷ [])) drawn trials)
      → Works runner gave first tests (old ∷ []) (new ∷ []) drawn trials whole
  works_by gave old new ms drawn trials whole began below number later room is_hand given runs = record {
    begins = record {
      below = λ bound.
          let all = ap (count_below bound) began ∙ below_append bound (runner.begun old) ms in omega (arith, all, below bound);
      number = let all = ap length began ∙ length-append (runner.begun old) ms in omega arith;
      later = omega arith;
    };
    room = ap (λ n. n ∷ []) room;
    hands = All-cons (IsHandOf runner gave) new [] is_hand (All-nil (IsHandOf runner gave));
    given = given;
    runs = runs;
  }

  module _ (old mid : H) (place : ℕ) (drawn : List ℕ) (trials : List Trial) (began : runner.begun mid ≡ runner.begun old ++ numbers_of trials)
      (counts : Counts first (length tests) place drawn trials) (later : runner.faults old ≤ runner.faults mid)
      (room : room_of runner mid ≡ room_of runner old) (same : SameGave (runner.gave mid) (runner.gave old))
      (given : All (IsTrialAmong (runner.gave old) first tests) trials) where
    -- memory was wanting in a test or behind it
    pub works_some : (new : H) (kept : List Trial) → place < length tests
        → runner.begun new ≡ runner.begun mid ++ (first + place) ∷ [] → runner.faults mid ≤ runner.faults new
        → runner.rooms new + 1 ≡ runner.rooms mid → IsHandOf runner (runner.gave mid) new → kept ≡ trials
        → Works runner (runner.gave old) first tests (old ∷ []) (new ∷ []) drawn kept false
    works_some new kept low one risen less is_hand is =
        let long = length-append (numbers_of trials) ((first + place) ∷ []) in
        let count = length-map trials (λ (t : Trial). t.number) in
        let all = ap length one ∙ length-append (runner.begun mid) ((first + place) ∷ []) in
        works_by (runner.gave old) old new (numbers_of trials ++ (first + place) ∷ []) drawn kept false
        (one ∙ ap (λ ns. ns ++ (first + place) ∷ []) began ∙ append_assoc (runner.begun old) (numbers_of trials) ((first + place) ∷ []))
        (λ bound. begun_on bound first (length tests) place (numbers_of trials) low ∙ counts.0 bound)
        (let here = counts.1 in grind (arith, nat_tests)) (omega arith) (omega arith)
        (SameGave-trans (runner.gave new) (runner.gave mid) (runner.gave old) is_hand.0 same, is_hand.1)
        (subst (All (IsTrialAmong (runner.gave old) first tests)) (sym is) given) (λ e. absurd (true≢false (sym e)))

    -- a number past the round was drawn
    pub works_all : length tests ≤ place → count_below place drawn + 1 ≡ length drawn → runner.ready mid
        → runner.asked mid ≡ runner.asked old + sum_entries trials
        → (any_fault trials ≡ true → Rose (runner.faults old) (runner.faults mid))
        → (any_fault trials ≡ false → runner.faults mid ≡ runner.faults old)
        → Works runner (runner.gave old) first tests (old ∷ []) (mid ∷ []) drawn trials true
    works_all past last is_ready sum broken calm =
        let count = length-map trials (λ (t : Trial). t.number) in
        let below : (bound : ℕ) → count_below bound (numbers_of trials) ≡ named_below bound first (length tests) drawn =
        (λ bound. let here = counts.0 bound in grind (arith, nat_tests)) in
        works_by (runner.gave old) old mid (numbers_of trials) drawn trials true began below
        (let here = counts.1 in grind (arith, nat_tests)) later room (same, is_ready) given (λ e. record {
          past = let more = below_more (length tests) place drawn past in omega arith;
          numbers = below;
          asked = omega arith;
          broken = λ any. let rose = broken any in omega arith;
          calm = λ none. let same = calm none in omega arith;
        })

-- ---- what a worker did, and others

-- trials that were taken over, or left where memory was wanting
pub all_kept : {A : Type 0} (P : A → Type 0) (xs ys zs : List A) → (zs ≡ xs ++ ys) ⊎ (zs ≡ xs) → All P xs → All P ys → All P zs
all_kept P xs ys zs (inl is) one other = subst (All P) (sym is) (All-append P xs ys one other)
all_kept P xs ys zs (inr is) one other = subst (All P) (sym is) one

pub all_three : (p q r : Bool) → ((p && q) && r) ≡ true → (p ≡ true) × (q ≡ true) × (r ≡ true)
all_three p q r all =
    let both = and_parts (p && q) r all in let each = and_parts p q both.0 in (each.0, each.1, both.1)

module _ (first count : ℕ) (a b c d : List Left) (one two : List ℕ) where
  begins_both : Begins first count a b one → Begins first count c d two → Begins first count (a ++ c) (b ++ d) (one ++ two)
  begins_both x y = record {
    below = λ bound.
        let old = sum_by-append (λ (h : Left). count_below bound h.begun) a c in let new = sum_by-append (λ (h : Left). count_below bound h.begun) b d in
        omega (arith, old, new, below_append (min (bound - first) count) one two, x.below bound, y.below bound);
    number = let old = sum_by-append (λ (h : Left). length h.begun) a c in let new = sum_by-append (λ (h : Left). length h.begun) b d in
        omega (arith, old, new, below_append count one two, x.number, y.number);
    later = let old = sum_by-append (λ (h : Left). h.faults) a c in let new = sum_by-append (λ (h : Left). h.faults) b d in
        omega (arith, old, new, x.later, y.later);
  }

  runs_both : (xs ys : List Trial) → faults_of a ≤ faults_of b → faults_of c ≤ faults_of d → RunsAll first count a b one xs
      → RunsAll first count c d two ys → RunsAll first count (a ++ c) (b ++ d) (one ++ two) (xs ++ ys)
  runs_both xs ys left right x y =
      let old = sum_by-append (λ (h : Left). h.faults) a c in let new = sum_by-append (λ (h : Left). h.faults) b d in
      record {
        past = omega (arith, length-append one two, below_append count one two, x.past, y.past);
        numbers = λ bound.
            let all = ap (count_below bound) (numbers_both xs ys) ∙ below_append bound (numbers_of xs) (numbers_of ys) in
            omega (arith, all, below_append (min (bound - first) count) one two, x.numbers bound, y.numbers bound);
        asked = let before = sum_by-append (λ (h : Left). h.asked) a c in let now = sum_by-append (λ (h : Left). h.asked) b d in
            omega (arith, before, now, entries_both xs ys, x.asked, y.asked);
        broken = λ any. elim (or_cases (any_fault xs) (any_fault ys) (sym (fault_either xs ys) ∙ any)) [
          | inl here ↦ omega (arith, old, new, right, x.broken here)
          | inr here ↦ omega (arith, old, new, left, y.broken here)
        ];
        calm = λ none. let none_of = or_parts (any_fault xs) (any_fault ys) (sym (fault_either xs ys) ∙ none) in
            omega (arith, old, new, x.calm none_of.0, y.calm none_of.1);
      }

module _ {H : Type 0} (runner : OfRunner H) (first : ℕ) (tests : List Test) where
  -- the same of a crew that gives what the hands do
  pub works_same : (one two : Gave) → SameGave one two → (old new : List H) (drawn : List ℕ) (trials : List Trial) (whole : Bool)
      → Works runner one first tests old new drawn trials whole
      → Works runner two first tests old new drawn trials whole
  works_same one two same old new drawn trials whole w = record {
    begins = w.begins;
    room = w.room;
    hands = All-weaker (IsHandOf runner one) (IsHandOf runner two)
        (λ hand is. (SameGave-trans (runner.gave hand) one two is.0 same, is.1)) new w.hands;
    given = All-weaker (IsTrialAmong one first tests) (IsTrialAmong two first tests) (among_same one two same first tests) trials w.given;
    runs = w.runs;
  }

  -- what two did, where all their trials are kept or memory was wanting
  pub works_both : (gave : Gave) (a b c d : List H) (one two : List ℕ) (xs ys trials : List Trial) (p q whole : Bool)
      → Works runner gave first tests a b one xs p
      → Works runner gave first tests c d two ys q
      → All (IsTrialAmong gave first tests) trials → (whole ≡ true → (p ≡ true) × (q ≡ true) × (trials ≡ xs ++ ys))
      → Works runner gave first tests (a ++ c) (b ++ d) (one ++ two) trials whole
  works_both gave a b c d one two xs ys trials p q whole x y given all =
      let old = map-append (left runner) a c in
      let new = map-append (left runner) b d in
      record {
        begins = rw old (rw new (begins_both first (length tests) _ _ _ _ one two x.begins y.begins));
        room = map-append (room_of runner) b d ∙ ap (λ l. l ++ rooms_of runner d) x.room
            ∙ ap (λ l. rooms_of runner a ++ l) y.room ∙ sym (map-append (room_of runner) a c);
        hands = All-append (IsHandOf runner gave) b d x.hands y.hands;
        given = given;
        runs = λ is. let w = all is in
            rw w.2 (rw old (rw new (runs_both first (length tests) _ _ _ _ one two xs ys x.begins.later y.begins.later (x.runs w.0) (y.runs w.1))));
      }

-- ---- jobs

-- of workers who may begin the last one may, by a hand of the crew, and so may the others where there are some
pub jobs_split : {H : Type 0} (runner : OfRunner H) (gave : Gave) (shared : Shared) (hands : List H) (seats : List ClaimSeat)
    (hand : H) (seat : ClaimSeat) → HaveJobs runner gave shared (hands ++ hand ∷ []) (seats ++ seat ∷ [])
    → HasJob runner shared hand seat × SameGave (runner.gave hand) gave × (length seats ≡ length hands)
    × (0 < length hands → HaveJobs runner gave shared hands seats)
jobs_split runner gave shared hands seats hand seat jobs =
    let ready = All-pop (CanRun runner gave (length shared.tests.now)) _ hands (Some hand) refl jobs.fit in
    let fresh = All-pop (IsFresh (claims_id shared.claims.now)) _ seats (Some seat) refl jobs.own in
    let low = sum_by_push runner.asked hands hand in
    let same : length seats ≡ length hands =
    omega (arith, jobs.same, length_push hands hand, length_push seats seat) in (
      record {
        own = fresh.1.0;
        fresh = fresh.1.1;
        few = jobs.few;
        first = jobs.first;
        fit = (ready.1.0, ((λ test earlier request reply. (λ x. x, λ x. x)), ready.1.1.1));
        low = omega (arith, low, jobs.low);
      },
      ready.1.1.0,
      same,
      λ some. record {
        own = fresh.0;
        same = same;
        some = some;
        few = jobs.few;
        first = jobs.first;
        fit = ready.0;
        low = omega (arith, low, jobs.low);
      },
    )
