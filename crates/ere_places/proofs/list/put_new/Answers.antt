-- The loop that adds places: the set has what the list has, and the list has what it had and what was found so far.
-- A place that is new is pushed, another one stays.
use Rattle.std.proofs.Common.{◌≡◌, ℕ, true, List, length, take, get_or, sym, ap, ◌∙◌, subst, ◌+◌}
use Rattle.std.proofs.lemmas.List.{take_all}
use Rattle.ere_places.specs.Places.{AreBoth}
use Rattle.ere_places.specs.Seen.{is_held}
use Rattle.ere_places.proofs.ListLemmas.{AreSame, not_false, same_push, same_stay, both_push, both_stay, front_push}
use Rattle.ere_places.proofs.list.put_new.Goals as goal
use Rattle.ere_places.proofs.list.put_new.Goals.{then-new+in_ok-push, else-new}

pub loop-place-preserved : goal.loop-place-preserved
loop-place-preserved c =
    let found = c.args.found.now in
    let i = c.loop-place.place-index in
    let place = get_or found i 0 in
    let old = c.args.list.now.items in
    let list = c.loop-place.list.items in
    let was = is_held c.loop-place.seen in
    let now = is_held c.put.new.self in
    let before = c.loop-place.invariant in
    elim c.if-new.branch [
      | then-new+in_ok-push w ↦
          let items = ap (λ v. v.items) w.list-is ∙ w.in_ok-push.ensures.items in
          record {
            same = subst (AreSame now) (sym items)
                (same_push was now list place c.in_ok-new.ensures.held before.same);
            all = subst (AreBoth old (take (i + 1) found)) (sym items)
                (both_push old found list i c.loop-place-test.true before.all);
            front = ap (take (length old)) items ∙ front_push old list place before.front;
            base = c.in_ok-new.ensures.base ∙ before.base;
            direction = c.in_ok-new.ensures.direction ∙ before.direction;
          }
      | else-new w ↦
          let items = ap (λ v. v.items) w.list-is in
          let held : was place ≡ true = not_false (was place) (sym c.in_ok-new.ensures.new ∙ w.if-new.false) in
          record {
            same = subst (AreSame now) (sym items)
                (same_stay was now list place c.in_ok-new.ensures.held held before.same);
            all = subst (AreBoth old (take (i + 1) found)) (sym items)
                (both_stay old found list i c.loop-place-test.true before.all ((before.same place).0 held));
            front = ap (take (length old)) items ∙ before.front;
            base = c.in_ok-new.ensures.base ∙ before.base;
            direction = c.in_ok-new.ensures.direction ∙ before.direction;
          }
    ]

pub returns-clause-all : goal.returns-clause-all
returns-clause-all c =
    subst (λ (xs : List ℕ). AreBoth c.args.list.now.items xs c.loop-place.list.items)
    (take_all c.loop-place.place-index c.args.found.now c.loop-place-test.false) c.loop-place.invariant.all
