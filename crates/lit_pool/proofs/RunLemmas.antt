-- A run by one hand, test by test: the first tests have their trials, which were put, and the hand began just these. Each `_on` is
-- the step to the next test; `stopped_alone` and `stopped_at` are what is promised of the two kinds of stop. None is hard: lists
-- grow at their end, and the definitions go by their front.
use Rattle.std.proofs.Common.{◌≡◌, ◌+◌, ◌≤◌, ◌<◌, ◌∙◌, ℕ, zero, suc, true, false, List, [], ◌∷◌, ◌++◌, get_or, length, map, slice_get, take, drop, Option, None, Some, refl, sym, ap, subst, arith}
use Rattle.std.proofs.Math.Seq.{take-append-add, take-suc}
use Rattle.std.proofs.lemmas.List.{append-nil, append_assoc, drop-take, length-append, length-take-le, take-append-drop, take-take, take_more}
use Rattle.std.proofs.lemmas.Option.{get_or_from_slice_get, slice_get_within}
use Rattle.std.proofs.lemmas.List.Sums.{sum_by_push}
use Rattle.std.specs.List.{range_with_len}
use Rattle.std.specs.Option.{option_to_list}
use Rattle.tt_outside.specs.Faults.{Rose}
use Rattle.tt_outside.specs.Gave.{Gave, SameGave}
use Rattle.tt_outside.specs.declared.crew.Runner.{Ghosts as OfRunner}
use Rattle.tt_outside.specs.declared.test_data.Test.{Test}
use Rattle.test_course.specs.Entries.{AreGiven}
use Rattle.test_course.specs.Played.{any_broken}
use Rattle.test_course.proofs.EntryLemmas.{AreGiven_same}
use Rattle.test_course.proofs.PlayedLemmas.{SameGave-trans}
use Rattle.lit_test.specs.Trial.{IsTrial}
use Rattle.lit_test.specs.declared.trial.Trial.{Trial}
use Rattle.lit_desk.specs.Desk.{PutFrom}
use Rattle.lit_desk.specs.declared.stop.DeskStop.{DeskStop}
use Rattle.lit_round.specs.Trials.{AreTrials, IsTrialOf}
use Rattle.lit_round.proofs.TrialLemmas.{broken_on, calm_on}
use Rattle.lit_pool.specs.Pool.{CountsFor, GoesOn, IsStopped, RefusesAt, returned, stop_at, why_of}
use Rattle.lit_pool.specs.declared.stop.PoolStop.{PoolStop}
use Rattle.lit_pool.specs.declared.stop.PoolWhy.{PoolWhy}
use Rattle.lit_pool.specs.declared.stop.PoolWhy.TheVariants.{NoMemory}

-- ---- desks

-- lists that are put one behind the other
pub put_both : {D X : Type 0} (Takes : D → ℕ → X → D → Type 0) (old mid new : D) (place next : ℕ) (xs ys : List X)
    → next ≡ place + length xs → PutFrom Takes old place xs mid → PutFrom Takes mid next ys new → PutFrom Takes old place (xs ++ ys) new
put_both Takes old mid new place next [] ys is first then =
    rw first (subst (λ n. PutFrom Takes mid n ys new) (is ∙ (omega arith)) then)
put_both Takes old mid new place next (x ∷ xs) ys is (one, took, first) then =
    (one, took, put_both Takes one mid new (place + 1) next xs ys (omega (arith, is)) first then)

pub put_on : {D X : Type 0} (Takes : D → ℕ → X → D → Type 0) (old mid new : D) (place : ℕ) (xs : List X) (x : X)
    → PutFrom Takes old place xs mid → Takes mid (place + length xs) x new → PutFrom Takes old place (xs ++ x ∷ []) new
put_on Takes old mid new place xs x put took = put_both Takes old mid new place (place + length xs) xs (x ∷ []) refl put (new, took, refl)

-- what is put on a desk is put on what is seen of it
pub put_through : {D E X Y : Type 0} (f : D → E) (g : X → Y) (Takes : E → ℕ → Y → E → Type 0) (old new : D) (place : ℕ)
    (xs : List X) → PutFrom (λ one n x other. Takes (f one) n (g x) (f other)) old place xs new
    → PutFrom Takes (f old) place (map g xs) (f new)
put_through f g Takes old new place [] put = ap f put
put_through f g Takes old new place (x ∷ xs) (next, took, put) =
    (f next, took, put_through f g Takes next new (place + 1) xs put)

-- ---- trials

pub trials_both : (gave : Gave) (place next : ℕ) (tests more : List Test) (xs ys : List Trial) → next ≡ place + length xs
    → AreTrials gave place tests xs → AreTrials gave next more ys → AreTrials gave place (tests ++ more) (xs ++ ys)
trials_both gave place next [] more [] ys is first then = subst (λ n. AreTrials gave n more ys) (is ∙ (omega arith)) then
trials_both gave place next [] more (x ∷ xs) ys is first then = absurd first
trials_both gave place next (test ∷ tests) more [] ys is first then = absurd first
trials_both gave place next (test ∷ tests) more (x ∷ xs) ys is (one, first) then =
    (one, trials_both gave (place + 1) next tests more xs ys (omega (arith, is)) first then)

trials_on : (gave : Gave) (place : ℕ) (tests : List Test) (xs : List Trial) (test : Test) (x : Trial)
    → AreTrials gave place tests xs → IsTrialOf gave (place + length xs) test x
    → AreTrials gave place (tests ++ test ∷ []) (xs ++ x ∷ [])
trials_on gave place tests xs test x all one = trials_both gave place (place + length xs) tests (test ∷ []) xs (x ∷ []) refl all (one, tt)

-- the first of them
pub trials_take : (gave : Gave) (place n : ℕ) (tests : List Test) (xs : List Trial) → AreTrials gave place tests xs
    → AreTrials gave place (take n tests) (take n xs)
trials_take gave place zero tests xs are = tt
trials_take gave place (suc n) [] [] are = tt
trials_take gave place (suc n) [] (x ∷ xs) are = absurd are
trials_take gave place (suc n) (test ∷ tests) [] are = absurd are
trials_take gave place (suc n) (test ∷ tests) (x ∷ xs) (first, rest) = (first, trials_take gave (place + 1) n tests xs rest)

-- there are as many of them as tests
pub trials_long : (gave : Gave) (place : ℕ) (tests : List Test) (xs : List Trial) → AreTrials gave place tests xs
    → length xs ≡ length tests
trials_long gave place [] [] are = refl
trials_long gave place [] (x ∷ xs) are = absurd are
trials_long gave place (test ∷ tests) [] are = absurd are
trials_long gave place (test ∷ tests) (x ∷ xs) are = ap suc (trials_long gave (place + 1) tests xs are.1)

-- of one crew and of another that gives the same
pub trials_same : (one two : Gave) → SameGave one two → (place : ℕ) (tests : List Test) (trials : List Trial)
    → AreTrials one place tests trials → AreTrials two place tests trials
trials_same one two same place [] [] are = are
trials_same one two same place [] (trial ∷ trials) are = are
trials_same one two same place (test ∷ tests) [] are = are
trials_same one two same place (test ∷ tests) (trial ∷ trials) (first, rest) = (
  record {
    number = first.number;
    test = first.test;
    shows = first.shows;
    given = AreGiven_same one two same place [] trial.entries first.given;
  },
  trials_same one two same (place + 1) tests trials rest,
)

-- one test more, whose trial a hand gave
pub are_on : (gave mid : Gave) (items tests : List Test) (index place : ℕ) (xs : List Trial) (test : Test) (x : Trial)
    → items ≡ tests → place ≡ index → index < length items → test ≡ get_or items index test → length xs ≡ place
    → SameGave mid gave → AreTrials gave 0 (take place tests) xs → (x.number ≡ place) × (x.test ≡ test)
    → IsTrial test x.entries x.result x.text → AreGiven mid place [] x.entries
    → AreTrials gave 0 (take (place + 1) tests) (xs ++ x ∷ [])
are_on gave mid items tests index place xs test x listed at below is long same all (number, its) shows given =
    let one : IsTrialOf gave place test x =
    record { number = number; test = its; shows = shows; given = AreGiven_same mid gave same place [] x.entries given } in
    let here : place ≡ 0 + length xs = omega (arith, long) in
    let low : place < length tests = (let n = ap length listed in omega (arith, n, at, below)) in
    let there : get_or tests place test ≡ test =
    ap (λ n. get_or tests n test) at ∙ ap (λ ts. get_or ts index test) (sym listed) ∙ sym is in
    let more : place + 1 ≡ suc place = omega arith in
    let front : take (place + 1) tests ≡ take place tests ++ test ∷ [] =
    ap (λ n. take n tests) more ∙ take-suc tests place test low ∙ ap (λ t. take place tests ++ t ∷ []) there in
    subst (λ ts. AreTrials gave 0 ts (xs ++ x ∷ [])) (sym front)
    (trials_on gave 0 (take place tests) xs test x all (subst (λ n. IsTrialOf gave n test x) here one))

-- ---- numbers

range_on : (a n : ℕ) → range_with_len a (suc n) ≡ range_with_len a n ++ (a + n) ∷ []
range_on a zero = ap (λ m. m ∷ []) (omega arith)
range_on a (suc n) = ap (λ ms. a ∷ ms) (range_on (a + 1) n ∙ ap (λ m. range_with_len (a + 1) n ++ m ∷ []) (omega arith))

pub begun_on : (old mid new : List ℕ) (n : ℕ) → mid ≡ old ++ range_with_len 0 n → new ≡ mid ++ n ∷ []
    → new ≡ old ++ range_with_len 0 (n + 1)
begun_on old mid new n first next =
    let here : n ≡ 0 + n = omega arith in
    let count : suc n ≡ n + 1 = omega arith in
    next ∙ ap (λ ns. ns ++ n ∷ []) first ∙ append_assoc old (range_with_len 0 n) (n ∷ [])
    ∙ ap (λ m. old ++ (range_with_len 0 n ++ m ∷ [])) here ∙ ap (λ ns. old ++ ns) (sym (range_on 0 n))
    ∙ ap (λ m. old ++ range_with_len 0 m) count

-- ---- a hand behind one test more

pub goes_on_test : {H : Type 0} (runner : OfRunner H) (one two three : H) (n : ℕ) → GoesOn runner one two
    → runner.begun three ≡ runner.begun two ++ n ∷ [] → runner.rooms three + 1 ≡ runner.rooms two
    → SameGave (runner.gave three) (runner.gave two) → runner.ready three → runner.faults two ≤ runner.faults three
    → GoesOn runner one three
goes_on_test runner one two three n was begun room gave ready later =
    let long = ap length begun ∙ length-append (runner.begun two) (n ∷ []) in
    record {
      room = omega (arith, long, room, was.room);
      gave = SameGave-trans _ _ _ gave was.gave;
      ready = ready;
      later = omega (arith, later, was.later);
    }

pub counts_on : {H : Type 0} (runner : OfRunner H) (one two three : H) (xs : List Trial) (x : Trial) → CountsFor runner one two xs
    → runner.faults one ≤ runner.faults two → runner.faults two ≤ runner.faults three
    → runner.asked three ≡ runner.asked two + length x.entries
    → (any_broken x.entries ≡ true → Rose (runner.faults two) (runner.faults three))
    → (any_broken x.entries ≡ false → runner.faults three ≡ runner.faults two) → CountsFor runner one three (xs ++ x ∷ [])
counts_on runner one two three xs x was first later asked broken calm = record {
  asked = omega (arith, sum_by_push (λ (t : Trial). length t.entries) xs x, was.asked, asked);
  broken = broken_on _ _ _ xs x first later was.broken broken;
  calm = calm_on _ _ _ xs x was.calm calm;
}

-- ---- a stop

module _ {D : Type 0} (Takes : D → ℕ → Trial → D → Type 0) (Keeps : D → ℕ → Trial → DeskStop → D → Type 0) (gave : Gave)
    (tests : List Test) (count : ℕ) (old now : D) (trials : List Trial) (put : PutFrom Takes old 0 trials now) where
  -- memory was wanting, and no trial was refused
  pub stopped_alone : AreTrials gave 0 (take count tests) trials
      → IsStopped Takes Keeps gave tests old now (record { why = NoMemory; trials = trials; other = None })
  stopped_alone are = record {
    done = take count tests;
    rest = drop count tests;
    all = sym (take-append-drop count tests);
    trials = subst (λ ts. AreTrials gave 0 (take count tests) ts) (sym (append-nil trials)) are;
    between = now;
    put = put;
    refused = (refl, refl);
  }

  -- the desk refused the trial behind those that were put
  pub stopped_at : (told : PoolWhy) (why : DeskStop) (other : Trial) (new : D) (place : ℕ) → told ≡ why_of why
      → AreTrials gave 0 (take count tests) (trials ++ other ∷ []) → length trials ≡ place → Keeps now place other why new
      → IsStopped Takes Keeps gave tests old new (record { why = told; trials = trials; other = Some other })
  stopped_at told why other new place is are at keeps = record {
    done = take count tests;
    rest = drop count tests;
    all = sym (take-append-drop count tests);
    trials = are;
    between = now;
    put = put;
    refused = (why, is, subst (λ n. Keeps now n other why new) (sym at) keeps);
  }

-- the same of a crew that gives the same
pub stopped_same : {D : Type 0} (Takes : D → ℕ → Trial → D → Type 0) (Keeps : D → ℕ → Trial → DeskStop → D → Type 0) (one two : Gave)
    → SameGave one two → (tests : List Test) (old new : D) (stop : PoolStop) → IsStopped Takes Keeps one tests old new stop
    → IsStopped Takes Keeps two tests old new stop
stopped_same Takes Keeps one two same tests old new stop s = record {
  done = s.done;
  rest = s.rest;
  all = s.all;
  trials = trials_same one two same 0 s.done (returned stop) s.trials;
  between = s.between;
  put = s.put;
  refused = s.refused;
}

-- ---- a stop at a refused trial

-- the last of a list that was cut behind a place was taken off
pub last_at : {A : Type 0} (items rest : List A) (place : ℕ) (last : Option A) → length rest ≡ place → place < length items
    → rest ++ option_to_list last ≡ take (place + 1) items → (rest ≡ take place items) × (last ≡ slice_get items place)
last_at [] rest place last long low is = absurd (omega arith)
last_at (x ∷ xs) [] zero None long low is = absurd (cc (is))
last_at (x ∷ xs) [] zero (Some y) long low is = (refl, cc (is))
last_at (x ∷ xs) [] (suc place) last long low is = absurd (omega arith)
last_at (x ∷ xs) (y ∷ ys) zero last long low is = absurd (omega arith)
last_at (x ∷ xs) (y ∷ ys) (suc place) last long low is =
    let more : suc place + 1 ≡ suc (place + 1) = omega arith in
    let all : y ∷ (ys ++ option_to_list last) ≡ x ∷ take (place + 1) xs = is ∙ ap (λ n. take n (x ∷ xs)) more in
    let rest = last_at xs ys place last (omega (arith, long)) (omega (arith, low)) (cc (all)) in
    let first : y ≡ x = cc (all) in (ap (λ l. y ∷ l) rest.0 ∙ ap (λ z. z ∷ take place xs) first, rest.1)

slice_get_behind : {A : Type 0} (xs ys : List A) (n : ℕ) → slice_get (xs ++ ys) (length xs + n) ≡ slice_get ys n
slice_get_behind [] ys n = ap (slice_get ys) (omega arith)
slice_get_behind (x ∷ xs) ys n =
    let next : length (x ∷ xs) + n ≡ suc (length xs + n) = omega arith in
    ap (slice_get (x ∷ (xs ++ ys))) next ∙ slice_get_behind xs ys n

-- one of a round, where all trials before the round had been put
pub stop_parts : (first taken : ℕ) (xs ys : List Trial) (why : DeskStop) (other : Trial) → length xs ≡ first
    → slice_get ys taken ≡ Some other → stop_at (xs ++ ys) (first + taken) why
    ≡ record { why = why_of why; trials = xs ++ take taken ys; other = Some other }
stop_parts first taken xs ys why other long at =
    let here : first + taken ≡ length xs + taken = omega (arith, long) in
    let front = ap (λ n. take n (xs ++ ys)) here ∙ take-append-add xs ys taken in
    let there = ap (slice_get (xs ++ ys)) here ∙ slice_get_behind xs ys taken ∙ at in
    λ i. record { why = why_of why; trials = front i; other = there i }

-- ---- a round

-- the tests of a round behind those before it
pub part_on : (first count : ℕ) (tests : List Test) → take first tests ++ take count (drop first tests) ≡ take (first + count) tests
part_on first count tests =
    ap (λ l. take first tests ++ l) (sym (drop-take first count tests))
    ∙ ap (λ l. l ++ drop first (take (first + count) tests)) (sym (take-take first (first + count) tests (omega arith)))
    ∙ take-append-drop first (take (first + count) tests)

-- the desk refused a trial of a round, where all trials before the round had been put
pub stopped_in : {D : Type 0} (Takes : D → ℕ → Trial → D → Type 0) (Keeps : D → ℕ → Trial → DeskStop → D → Type 0) (gave : Gave)
    (tests : List Test) (first count taken : ℕ) (xs ys : List Trial) (old mid new : D) (why : DeskStop) (stop : PoolStop)
    → length xs ≡ first → AreTrials gave 0 (take first tests) xs → PutFrom Takes old 0 xs mid
    → AreTrials gave first (take count (drop first tests)) ys → (r : RefusesAt Takes Keeps mid first ys taken why new)
    → stop ≡ stop_at (xs ++ ys) (first + taken) why
    → IsStopped Takes Keeps gave tests old new stop
stopped_in Takes Keeps gave tests first count taken xs ys old mid new why stop long are put part r is =
    let low = slice_get_within ys taken r.other r.at in
    let next = take_more ys taken r.other low
    ∙ ap (λ (t : Trial). take taken ys ++ t ∷ []) (get_or_from_slice_get ys taken r.other r.other r.at) in
    let all : (xs ++ take taken ys) ++ r.other ∷ [] ≡ xs ++ take (taken + 1) ys =
    append_assoc xs (take taken ys) (r.other ∷ []) ∙ ap (λ l. xs ++ l) (sym next) in
    let many = length-append xs (take taken ys) in
    let taken_long = length-take-le taken ys (omega arith) in
    let place : length (xs ++ take taken ys) ≡ first + taken = omega arith in
    let behind = drop first tests in
    let part_tests = take count behind in
    rw (is ∙ stop_parts first taken xs ys why r.other long r.at) (record {
      done = take first tests ++ take (taken + 1) part_tests;
      rest = drop (taken + 1) part_tests ++ drop count behind;
      all = sym (append_assoc (take first tests) (take (taken + 1) part_tests) (drop (taken + 1) part_tests ++ drop count behind)
          ∙ ap (λ l. take first tests ++ l) (sym (append_assoc (take (taken + 1) part_tests) (drop (taken + 1) part_tests) (drop count behind))
          ∙ ap (λ l. l ++ drop count behind) (take-append-drop (taken + 1) part_tests) ∙ take-append-drop count behind)
          ∙ take-append-drop first tests);
      trials = subst (λ ts. AreTrials gave 0 (take first tests ++ take (taken + 1) part_tests) ts) (sym all)
          (trials_both gave 0 first (take first tests) (take (taken + 1) part_tests) xs (take (taken + 1) ys) (omega arith) are
          (trials_take gave first (taken + 1) part_tests ys part));
      between = r.between;
      put = put_both Takes old mid r.between 0 first xs (take taken ys) (omega arith) put r.put;
      refused = (why, refl, subst (λ n. Keeps r.between n r.other why new) (sym place) r.kept);
    })

-- the trials before a refused one, and it
pub front_of : (first taken : ℕ) (xs ys : List Trial) (other : Trial) → length xs ≡ first → slice_get ys taken ≡ Some other
    → take (first + taken + 1) (xs ++ ys) ≡ (xs ++ take taken ys) ++ other ∷ []
front_of first taken xs ys other long at =
    let more : first + taken + 1 ≡ length xs + (taken + 1) = omega arith in
    ap (λ n. take n (xs ++ ys)) more ∙ take-append-add xs ys (taken + 1)
    ∙ ap (λ l. xs ++ l) (take_more ys taken other (slice_get_within ys taken other at)
    ∙ ap (λ t. take taken ys ++ t ∷ []) (get_or_from_slice_get ys taken other other at))
    ∙ sym (append_assoc xs (take taken ys) (other ∷ []))
