-- What was played of a test, and how it ended: its attempts, its plan, and the test with the entry of its file.
-- Each part is played along the course that the definition names, and where nothing more is asked the ending is told of what is left.
-- The hard ones are `ends_runs`, attempts up to the end of a test, and `ends_behind_file`, a plan behind the first entry.
use Rattle.std.proofs.Common.{◌≡◌, ◌≢◌, ◌∙◌, ◌≤◌, ◌<◌, ◌+◌, ◌^◌, ℕ, true, List, [], ◌∷◌, ◌++◌, refl, sym, ap, subst, arith}
use Rattle.std.specs.Prelude.{nat_lt}
use Rattle.std.proofs.lemmas.Bool.Decides.{nat_tests}
use Rattle.tt_outside.specs.Fits.{fits}
use Rattle.tt_outside.specs.Gave.{Gave, SameGave, last_of}
use Rattle.tt_outside.specs.declared.request.Entry.{Entry}
use Rattle.tt_outside.specs.declared.request.Reply.{Reply}
use Rattle.tt_outside.specs.declared.request.Reply.TheVariants as reply
use Rattle.tt_outside.specs.declared.request.Request.TheVariants.{ReadFile}
use Rattle.tt_outside.specs.declared.test_data.Test.{Test}
use Rattle.test_course.specs.Bytes.{LIMIT, MAX_KEPT, capped, kept_behind, own_bytes, reply_bytes}
use Rattle.test_course.specs.Course.{over, asks, behind, followed, shown}
use Rattle.test_course.specs.Entries.{Follows, IsOver}
use Rattle.test_course.specs.Played.{IsFull, Played}
use Rattle.test_course.proofs.PlayedLemmas.{full_over, played_as, played_followed, played_none, played_on, played_trans}
use Rattle.shell_play.specs.Play.{play}
use Rattle.shell_play.specs.PlayOf.{course_of as left_of}
use Rattle.shell_play.specs.declared.told.PlayEnd.{PlayEnd}
use Rattle.shell_play.specs.declared.told.PlayEnd.TheVariants as play_end
use Rattle.test_attempts.specs.Attempts.{AttemptsCourse, Seen, attempts_of, seen}
use Rattle.test_attempts.specs.Ends.{Ends}
use Rattle.test_attempts.specs.Finish.{Finishes}
use Rattle.test_attempts.specs.declared.attempt.AttemptStop.{AttemptStop}
use Rattle.test_attempts.specs.declared.attempt.AttemptStop.TheVariants.{Ended, TooMuch}
use Rattle.test_attempts.specs.declared.attempts.Finished.{Finished}
use Rattle.test_plan.specs.Plan.{IsSmall, plan_of}
use Rattle.test_plan.specs.declared.cause.Cause.{Cause}
use Rattle.test_plan.specs.declared.cause.Cause.TheVariants as cause
use Rattle.test_plan.specs.declared.plan.Plan.{Plan}
use Rattle.test_plan.specs.declared.plan.Plan.TheVariants as plan
use Rattle.test_plan.specs.declared.plan.Runs.{Runs}
use Rattle.lit_test.specs.Run.{EndsPlan, EndsTest, ending_stopped}
use Rattle.lit_test.specs.Trial.{IsTrial, TestCourse, TestEnd, TestShown, by_plan, course_of, ending_at, ending_by, ending_of, ends, last_cause, read_request, shows, unresolved_by, unsupported, unresolved, played}
use Rattle.lit_test.specs.declared.outcome.Ending.{Ending}

-- ---- attempts

-- where nothing more is asked of attempts the test ended as they did
stopped : (runs : Runs) (rest : AttemptsCourse) (stop : AttemptStop) (kept : ℕ) (last : Cause) → Ends rest stop
    → ending_stopped kept last (shows runs (shown rest)) stop ≡ ending_at kept last (followed (shows runs) (ends runs) rest)
stopped runs (over now end) (Ended is) kept last e = ap (λ (one : PlayEnd). ending_by kept last (shows runs now) (played one)) e
stopped runs (over now end) TooMuch kept last e = absurd e
stopped runs (asks now request next) (Ended is) kept last e = absurd e
stopped runs (asks now request next) TooMuch kept last e = refl

full_followed : (runs : Runs) (rest : AttemptsCourse) (kept : ℕ) → IsFull kept rest
    → IsFull kept (followed (shows runs) (ends runs) rest)
full_followed runs (over now end) kept full = tt
full_followed runs (asks now request next) kept full = full

pub ends_runs : (gave : Gave) (number : ℕ) (test : Test) (runs : Runs) (earlier entries : List Entry) (start : ℕ)
    (done : Finished) (last : Cause) (ending : Ending)
    → Finishes gave number earlier entries start (attempts_of (play runs.lines test) runs.retries) done
    → last ≡ last_cause cause.Broken entries
    → ending ≡ ending_stopped done.kept last (shows runs (seen done.attempts (shown (left_of done.last)))) done.stop
    → EndsPlan gave number test (plan.Run runs) earlier entries start ending
ends_runs gave number test runs earlier entries start done last ending f is told = record {
  kept = done.kept;
  rest = followed (shows runs) (ends runs) f.rest;
  along = played_followed (shows runs) (ends runs) gave number earlier entries start
      (attempts_of (play runs.lines test) runs.retries) done.kept f.rest f.played;
  full = full_followed runs f.rest done.kept f.full;
  told = told
      ∙ ap (λ (c : Cause). ending_stopped done.kept c (shows runs (seen done.attempts (shown (left_of done.last)))) done.stop) is
      ∙ ap (λ (s : Seen). ending_stopped done.kept (last_cause cause.Broken entries) (shows runs s) done.stop) (sym f.shows)
      ∙ stopped runs f.rest done.stop done.kept (last_cause cause.Broken entries) f.ends;
}

-- a plan by which nothing is asked
pub ends_at_once : (gave : Gave) (number : ℕ) (test : Test) (is : Plan) (earlier : List Entry) (start : ℕ)
    (now : TestShown) (end : TestEnd) (ending : Ending) → by_plan test is ≡ over now end → start ≤ 2 ^ 25
    → ending ≡ ending_by start (last_cause cause.Broken earlier) now end
    → EndsPlan gave number test is earlier earlier start ending
ends_at_once gave number test is earlier start now end ending plans most told = record {
  kept = start;
  rest = over now end;
  along = subst (λ c. Played gave number earlier earlier start c start (over now end)) (sym plans)
      (played_none gave number earlier start (over now end) most);
  full = tt;
  told = told;
}

-- ---- a test

-- bytes that are too many are as many as they are counted
too_many : (kept : ℕ) → nat_lt MAX_KEPT (capped kept) ≡ nat_lt MAX_KEPT kept
too_many kept = grind (arith, nat_tests)

counted_as : (kept : ℕ) (last : Cause) (rest : TestCourse) → ending_at (capped kept) last rest ≡ ending_at kept last rest
counted_as kept last (asks now request next) = refl
counted_as kept last (over now unsupported) = refl
counted_as kept last (over now (unresolved one)) = refl
counted_as kept last (over now (played play_end.Unresolved)) = refl
counted_as kept last (over now (played play_end.Passed)) = rw (too_many kept) refl
counted_as kept last (over now (played (play_end.Failed line status))) = rw (too_many kept) refl

pub ends_whole : (gave : Gave) (number : ℕ) (test : Test) (entries : List Entry) (kept : ℕ) (rest : TestCourse)
    (ending : Ending) → Played gave number [] entries 0 (course_of test) kept rest → IsFull kept rest
    → ending ≡ ending_at kept (last_cause cause.Broken entries) rest → EndsTest gave number test entries ending
ends_whole gave number test entries kept rest ending p full told =
    let leads : rest ≡ behind (course_of test) entries = p.leads ∙ ap (behind (course_of test)) (sym p.whole) in
    let counted : kept ≡ capped (kept_behind 0 entries) = p.counted ∙ ap (λ es. capped (kept_behind 0 es)) (sym p.whole) in
    record {
      trace = record {
        asked = rw (sym p.whole) at p.asked;
        ends = subst (λ c. IsOver (kept_behind 0 entries) c) leads
            (full_over kept (kept_behind 0 entries) rest counted full);
      };
      given = rw (sym p.whole) at p.given;
      told = told ∙ ap (λ n. ending_at n (last_cause cause.Broken entries) rest) counted
          ∙ counted_as (kept_behind 0 entries) (last_cause cause.Broken entries) rest
          ∙ ap (λ c. ending_at (kept_behind 0 entries) (last_cause cause.Broken entries) c) leads;
    }

-- the file's entry, and behind it those of the plan
pub ends_behind_file : (gave : Gave) (number : ℕ) (test : Test) (entry : Entry) (entries : List Entry) (kept : ℕ)
    (ending : Ending) → entry.request ≡ read_request test → fits entry.request entry.reply ≡ true
    → own_bytes entry.request ≤ MAX_KEPT → gave number [] entry.request entry.reply
    → kept ≡ capped (capped (own_bytes entry.request) + capped (reply_bytes entry.reply))
    → EndsPlan gave number test (plan_of test entry.reply) (entry ∷ []) entries kept ending
    → EndsTest gave number test entries ending
ends_behind_file gave number test entry entries kept ending due fit room given is e =
    let none : Played gave number [] [] 0 (course_of test) 0 (course_of test) =
    played_none gave number [] 0 (course_of test) (omega arith) in
    let first : Played gave number [] (entry ∷ []) 0 (course_of test) kept (by_plan test (plan_of test entry.reply)) =
    played_on gave number [] [] 0 (course_of test) 0 (course_of test) entry kept none due fit (omega (arith, room)) given
    (omega (arith, is)) in
    ends_whole gave number test entries e.kept e.rest ending
    (played_trans gave number [] (entry ∷ []) entries 0 (course_of test) kept (by_plan test (plan_of test entry.reply)) e.kept
    e.rest first e.along) e.full e.told

-- a test whose file's request has no room
pub ends_unread : (gave : Gave) (number : ℕ) (test : Test) (ending : Ending)
    → MAX_KEPT < own_bytes (read_request test) → ending ≡ unresolved_by [] cause.TooMuch
    → EndsTest gave number test [] ending
ends_unread gave number test ending much told =
    ends_whole gave number test [] 0 (course_of test) ending
    (played_none gave number [] 0 (course_of test) (omega arith)) (omega (arith, much)) told

-- ---- what was said in other words

-- a plan that is the same, by a hand that gives the same
pub ends_plan_as : (one two : Gave) (first second : ℕ) (test : Test) (made is : Plan) (earlier front entries : List Entry)
    (start : ℕ) (ending : Ending) → SameGave one two → first ≡ second → made ≡ is → earlier ≡ front
    → EndsPlan one first test made earlier entries start ending → EndsPlan two second test is front entries start ending
ends_plan_as one two first second test made is earlier front entries start ending same number plans fronts e = record {
  kept = e.kept;
  rest = e.rest;
  along = subst (λ es. Played two second es entries start (by_plan test is) e.kept e.rest) fronts
      (played_as one two first second earlier entries start (by_plan test made) (by_plan test is) e.kept e.rest same number
      (ap (by_plan test) plans) e.along);
  full = e.full;
  told = e.told;
}

-- a file that was read within the limit has few bytes
pub file_is_small : (path : List ℕ) (answered : Reply) → fits (ReadFile path LIMIT) answered ≡ true → IsSmall answered
file_is_small path (reply.Bytes bytes) fit = grind (arith, nat_tests)
file_is_small path reply.Written fit = tt
file_is_small path reply.Missing fit = tt
file_is_small path (reply.Status finish out err) fit = tt
file_is_small path (reply.TooLarge stream) fit = tt
file_is_small path reply.Broken fit = tt

-- a test's trial is that of its copy
pub trial_of : (gave : Gave) (number : ℕ) (test copy : Test) (entries : List Entry) (ending : Ending) → copy ≡ test
    → EndsTest gave number copy entries ending → IsTrial test entries ending.outcome ending.text
trial_of gave number test copy entries ending is e = record {
  trace = subst (λ (t : Test). Follows 0 (course_of t) entries) is e.trace;
  ended = ap (λ (t : Test). (ending_of t entries).outcome) (sym is) ∙ ap (λ (x : Ending). x.outcome) (sym e.told);
  told = ap (λ (t : Test). (ending_of t entries).text) (sym is) ∙ ap (λ (x : Ending). x.text) (sym e.told);
}

-- ---- the number of a test

last_behind : (other : ℕ) (numbers : List ℕ) (number : ℕ) → last_of other (numbers ++ number ∷ []) ≡ number
last_behind other [] number = refl
last_behind other (first ∷ numbers) number = last_behind first numbers number

pub last_begun : (begun numbers : List ℕ) (number : ℕ) → begun ≡ numbers ++ number ∷ [] → last_of 0 begun ≡ number
last_begun begun numbers number is = ap (last_of 0) is ∙ last_behind 0 numbers number

pub some_begun : (begun numbers : List ℕ) (number : ℕ) → begun ≡ numbers ++ number ∷ [] → begun ≢ []
some_begun begun [] number is none = absurd (cc (sym is ∙ none))
some_begun begun (first ∷ numbers) number is none = absurd (cc (sym is ∙ none))
