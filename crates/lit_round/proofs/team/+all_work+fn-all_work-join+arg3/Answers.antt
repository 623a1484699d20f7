-- The last hand works in this thread, and any other in one of its own; what a worker did is added to what the others did. Lemmas of
-- WorkLemmas add; what is left here is that hands and seats are those that were taken off their lists. The hard one is
-- `join-worked-requires-after_bounds`: what the two sides of the join ask for, side by side.
use Rattle.std.proofs.Common.{rules, arith, ◌≡◌, ◌++◌, ◌∷◌, [], ◌<◌, length, ap, ◌∙◌}
use Rattle.std.proofs.lemmas.List.{length_push, nil_from_length}
use Rattle.std.proofs.lemmas.List.Sums.{sum_by_push}
use Rattle.std.specs.List.{sum_by}
use Rattle.lit_claims.specs.Seats.{drawn_by, share_of}
use Rattle.lit_round.specs.Trials.{IsTrialAmong}
use Rattle.lit_round.proofs.WorkLemmas.{all_kept, jobs_split, works_both, works_same}
use Rattle.lit_round.proofs.team.+all_work+fn-all_work-join+arg3.Goals as goal

pub returns-then-is_empty : goal.returns-then-is_empty
returns-then-is_empty g t c =
    let R = g.C.Hand.Runner in
    let hand = c.in-Some.hand in
    let seat = c.in-Some-pop.seat in
    let gave = g.C.Crew.gave c.args.crew.now in
    let popped : c.args.hands.items ≡ c.pop.new.self.items ++ hand ∷ [] = search rules in
    let seated : c.args.seats.items ≡ c.pop-2.new.self.items ++ seat ∷ [] = search rules in
    let none : c.pop.new.self.items ≡ [] = search rules in
    let jobs = jobs_split R gave c.args.shared.now _ _ hand seat (rw seated at (rw popped at c.requires.jobs)) in
    let no_seat = ap (sum_by share_of) (nil_from_length c.pop-2.new.self.items (omega (arith, jobs.2, ap length none))) in
    let shares = ap (sum_by share_of) seated ∙ sum_by_push share_of c.pop-2.new.self.items seat in
    let worked = c.work-worked.ensures in
    record {
      did = (
        record {
          own = worked.seat.0 ∙ jobs.0.own;
          share = let share = worked.seat.1 in omega arith;
          works = rw popped (rw c.push_reserved.ensures.items (rw none (works_same R c.args.shared.now.first c.args.shared.now.tests.now
              (R.gave hand) gave jobs.1 _ _ _ _ _ worked.works)));
        },
        search (rules, arith),
        search (rules, arith),
      );
    }

pub join-worked-requires-after_bounds : goal.join-worked-requires-after_bounds
join-worked-requires-after_bounds g t c κs within =
    let hand = c.in-Some.hand in
    let seat = c.in-Some-pop.seat in
    let popped : c.args.hands.items ≡ c.pop.new.self.items ++ hand ∷ [] = search rules in
    let seated : c.args.seats.items ≡ c.pop-2.new.self.items ++ seat ∷ [] = search rules in
    let some : 0 < length c.pop.new.self.items = search rules in
    let jobs = jobs_split g.C.Hand.Runner (g.C.Crew.gave c.args.crew.now) c.args.shared.now _ _ hand seat
    (rw seated at (rw popped at c.requires.jobs)) in
    let rest = jobs.3 some in (
      jobs.0,
      (
        search (rules, arith),
        (
          search rules,
          (
            search rules,
            (
              search rules,
              ((search rules, rest), (search rules, search rules)),
            ),
          ),
        ),
      ),
    )

pub add-requires : goal.add-requires
add-requires g t c = record {
  own = c.join-worked.ensures.second.0.own;
  joining = c.join-worked.ensures.first.own;
  space = search (rules, arith);
}

pub returns : goal.returns
returns g t c =
    let R = g.C.Hand.Runner in
    let hand = c.in-Some.hand in
    let seat = c.in-Some-pop.seat in
    let gave = g.C.Crew.gave c.args.crew.now in
    let first = c.args.shared.now.first in
    let tests = c.args.shared.now.tests.now in
    let popped : c.args.hands.items ≡ c.pop.new.self.items ++ hand ∷ [] = search rules in
    let seated : c.args.seats.items ≡ c.pop-2.new.self.items ++ seat ∷ [] = search rules in
    let jobs = jobs_split R gave c.args.shared.now _ _ hand seat (rw seated at (rw popped at c.requires.jobs)) in
    let mine = c.join-worked.ensures.first in
    let theirs = c.join-worked.ensures.second.0 in
    let worked = works_same R first tests (R.gave hand) gave jobs.1 _ _ _ _ _ mine.works in
    let one = c.join-worked.result.0 in
    let all = c.join-worked.result.1 in
    let added = c.add.ensures in
    let shares = ap (sum_by share_of) seated ∙ sum_by_push share_of c.pop-2.new.self.items seat in
    let long = ap length added.hands ∙ length_push all.hands.items one.hand in
    let was = ap length popped ∙ length_push c.pop.new.self.items hand in
    let same = c.join-worked.ensures.second.1 in
    record {
      did = (
        record {
          own = added.seat ∙ theirs.own;
          share = let sum = added.share in let share = mine.share in let rest = theirs.share in omega arith;
          works = rw popped (rw added.hands (rw added.drawn (works_both R first tests gave c.pop.new.self.items all.hands.items
              (hand ∷ []) (one.hand ∷ []) (drawn_by all.seat) (drawn_by one.seat) all.trials.items one.trials.items
              c.add.result.trials.items all.whole one.whole c.add.result.whole theirs.works worked
              (all_kept (IsTrialAmong gave first tests) all.trials.items one.trials.items c.add.result.trials.items added.trials
              theirs.works.given worked.given) added.whole)));
        },
        omega (arith, long, was, same),
        search (rules, arith),
      );
    }
