-- A worker's loop: a place was drawn, and the tests of all places before it were run. It ends by a place past the round, or where memory is
-- wanting in a test or for its trial. Lemmas of WorkLemmas give each; what is left here is which name holds what. The longest is the step to
-- the next place (`loop-place-preserved`), with a field for each fact; the three ends are the branches of `returns-clause-works`.
use Rattle.std.proofs.Common.{rules, arith, ◌≡◌, ◌+◌, ◌++◌, ◌∷◌, [], length, Some, ap, refl, sym, subst, ◌∙◌}
use Rattle.std.proofs.lemmas.List.{append_assoc, length-append}
use Rattle.std.proofs.lemmas.List.Elements.{All-push}
use Rattle.std.proofs.lemmas.Option.{slice_get-get_or}
use Rattle.test_course.proofs.EntryLemmas.{AreGiven_same}
use Rattle.test_course.proofs.PlayedLemmas.{SameGave-trans}
use Rattle.lit_test.specs.Trial.{IsTrial}
use Rattle.lit_claims.specs.Seats.{drawn_by}
use Rattle.lit_round.specs.Trials.{IsTrialAmong}
use Rattle.lit_round.specs.Work.{numbers_of}
use Rattle.lit_round.proofs.TrialLemmas.{broken_on, calm_on, entries_both, few_entries, numbers_both}
use Rattle.lit_round.proofs.WorkLemmas.{counts_on, last_on, rises, works_all, works_some}
use Rattle.lit_round.proofs.worker.work.Goals as goal
use Rattle.lit_round.proofs.worker.work.Goals.{else-loop-place-test, then-loop-place-test+in_default, then-loop-place-test+in-Ok+then-is_err}

pub run_test-requires-clause-asked : goal.run_test-requires-clause-asked
run_test-requires-clause-asked g c =
    let was = c.loop-place.invariant in
    let few = few_entries (g.H.Runner.gave c.args.hand) c.args.shared.now.first c.args.shared.now.tests.now c.loop-place.trials.items
    was.given in
    omega (arith, few, was.asked, was.some, c.requires.few, c.requires.asked, c.loop-place-test.true)

pub loop-place-smaller : goal.loop-place-smaller
loop-place-smaller g c =
    let more = rises (drawn_by c.loop-place.seat) c.loop-place.place c.draw-place-in-loop-place.result c.loop-place.invariant.last
    c.draw-place-in-loop-place.ensures.later in
    omega (arith, more, c.loop-place-test.true)

pub loop-place-preserved : goal.loop-place-preserved
loop-place-preserved g c =
    let was = c.loop-place.invariant in
    let ran = c.run_test.ensures in
    let now = c.in-Ok.ensures in
    let gave = g.H.Runner.gave c.args.hand in
    let first = c.args.shared.now.first in
    let tests = c.args.shared.now.tests.now in
    let place = c.loop-place.place in
    let xs = c.loop-place.trials.items in
    let x = c.in-Ok.trial in
    let pushed : c.push.new.self.items ≡ xs ++ x ∷ [] = search rules in
    let drawn = c.draw-place-in-loop-place.ensures in
    let ends = last_on (drawn_by c.loop-place.seat) _ c.draw-place-in-loop-place.result drawn.drawn drawn.later in
    let more = rises (drawn_by c.loop-place.seat) place c.draw-place-in-loop-place.result was.last drawn.later in
    rw pushed (record {
      own = drawn.seat.0 ∙ was.own;
      share = drawn.seat.1 ∙ was.share;
      most = ends.0;
      last = ends.1;
      begun = ran.begun ∙ ap (λ ns. ns ++ (first + place) ∷ []) was.begun ∙ append_assoc (g.H.Runner.begun c.args.hand) (numbers_of xs) _
          ∙ ap (λ n. g.H.Runner.begun c.args.hand ++ (numbers_of xs ++ n ∷ [])) (sym now.same.0)
          ∙ ap (λ ns. g.H.Runner.begun c.args.hand ++ ns) (sym (numbers_both xs (x ∷ [])));
      counts = counts_on first (length tests) place c.draw-place-in-loop-place.result (drawn_by c.loop-place.seat) _ xs x now.same.0
          c.loop-place-test.true drawn.drawn was.counts;
      some = omega (arith, length-append xs (x ∷ []), more, was.some);
      room = (let long = length-append (g.H.Runner.begun c.loop-place.hand) ((first + place) ∷ []) in
          let all = ap length ran.begun in omega (arith, long, all, ran.room, was.room));
      given = All-push (IsTrialAmong gave first tests) xs x was.given (record {
        place = place;
        its = x.test;
        at = slice_get-get_or tests place c.index-shared-place.result c.loop-place-test.true ∙ ap Some (sym now.same.1);
        is = record {
          number = now.same.0;
          test = refl;
          shows = subst (λ t. IsTrial t x.entries x.result x.text) (sym now.same.1) now.trial;
          given = AreGiven_same (g.H.Runner.gave c.loop-place.hand) gave was.gave (first + place) [] x.entries now.given;
        };
        few = now.few;
      });
      asked = omega (arith, entries_both xs (x ∷ []), was.asked, now.asked);
      broken = broken_on _ _ _ xs x was.later ran.later was.broken now.broken;
      calm = calm_on _ _ _ xs x was.calm now.calm;
      later = omega (arith, was.later, ran.later);
      gave = SameGave-trans (g.H.Runner.gave c.run_test.new.hand) (g.H.Runner.gave c.loop-place.hand) gave ran.gave was.gave;
      ready = ran.ready;
      whole = was.whole;
    })

pub returns-clause-works : goal.returns-clause-works
returns-clause-works g c =
    let was = c.loop-place.invariant in
    let some = works_some g.H.Runner c.args.shared.now.first c.args.shared.now.tests.now c.args.hand c.loop-place.hand c.loop-place.place
    (drawn_by c.loop-place.seat) c.loop-place.trials.items was.begun was.counts was.later was.room was.gave was.given in
    let all = works_all g.H.Runner c.args.shared.now.first c.args.shared.now.tests.now c.args.hand c.loop-place.hand c.loop-place.place
    (drawn_by c.loop-place.seat) c.loop-place.trials.items was.begun was.counts was.later was.room was.gave was.given in
    elim c.loop-place-test.branch [
      | else-loop-place-test w ↦ rw w.hand-is (rw w.trials-is (rw w.whole-is (rw was.whole (all (omega (arith, w.loop-place-test.false)) was.last
          was.ready was.asked was.broken was.calm))))
      | then-loop-place-test+in_default w ↦ let ran = w.run_test.ensures in
          rw w.hand-is (rw w.trials-is (rw w.whole-is (some _ _ w.loop-place-test.true ran.begun ran.later ran.room (ran.gave, ran.ready) refl)))
      | then-loop-place-test+in-Ok+then-is_err w ↦ let ran = w.run_test.ensures in
          rw w.hand-is (rw w.trials-is (rw w.whole-is (some _ _ w.loop-place-test.true ran.begun ran.later ran.room (ran.gave, ran.ready)
          (search rules))))
    ]
