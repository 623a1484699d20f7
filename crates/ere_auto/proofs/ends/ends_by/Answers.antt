-- Place by place the ends of one are told by an automaton of the expression, and those that weren't seen before are added.
-- What is seen is kept from the place on that lies farthest back, so that each end of a place lies beyond it.
-- The hard one is `loop-place-preserved`: the automaton stays one of the expression, and each place brings its ends.
use Rattle.std.proofs.Common.{ℕ, List, [], ◌∷◌, IsTrue, get_or, sym, ◌∙◌, subst, take_all, arith, true≢false}
use Rattle.std.specs.List.{All, Contains}
use Rattle.std.proofs.lemmas.List.Elements.{All-cons, All-get_or, All-nil}
use Rattle.ere_places.proofs.ReachLemmas.{reached_beyond}
use Rattle.ere_places.specs.Places.{AreReached, LeadsInside}
use Rattle.ere_places.specs.Seen.{is_beyond}
use Rattle.ere_tree.specs.Tree.{Tree}
use Rattle.ere_auto.proofs.AloneLemmas.{no_place, one_place_more}
use Rattle.ere_auto.proofs.ends.ends_by.Goals as goal

pub loop-place-init : goal.loop-place-init
loop-place-init c =
    let s = c.args.text.now in
    let window = c.args.window in
    let from = c.args.from.now in
    let none = c.new-all.ensures.items in
    record {
      kept = λ t is. is;
      held = λ q. (
        λ on. absurd (true≢false (sym on ∙ c.new-seen.ensures.empty q)),
        λ has. let gone = subst (λ (xs : List ℕ). Contains xs q) none has in absurd (omega (arith, gone.1)),
      );
      near =
          subst (λ d. All (λ p. IsTrue (is_beyond d c.new-seen.result.base p)) from) (sym c.new-seen.ensures.direction)
          (subst (λ b. All (λ p. IsTrue (is_beyond window.direction b p)) from) (sym c.new-seen.ensures.base) c.nearest.ensures);
      direction = c.new-seen.ensures.direction;
      found = λ (t : Tree) is. subst (AreReached (LeadsInside s t window) []) (sym none) (no_place s t window);
    }

pub put_new-requires-clause-beyond : goal.put_new-requires-clause-beyond
put_new-requires-clause-beyond c =
    let s = c.args.text.now in
    let t = c.requires.expression.0 in
    let window = c.args.window in
    let seen = c.loop-place.seen in
    let place = get_or c.args.from.now c.loop-place.place-index 0 in
    let P = λ (p : ℕ). IsTrue (is_beyond seen.direction seen.base p) in
    reached_beyond s t window seen.direction seen.base (place ∷ []) c.as_slice.result.now c.loop-place.invariant.direction
    (All-cons P place [] (All-get_or P c.args.from.now c.loop-place.place-index 0 c.loop-place-test.true
    c.loop-place.invariant.near) (All-nil P))
    (rw (sym c.as_slice.ensures.value) at c.in_ok-ends.ensures.ends t
    (c.loop-place.invariant.kept t c.requires.expression.1))

pub loop-place-preserved : goal.loop-place-preserved
loop-place-preserved c =
    let s = c.args.text.now in
    let window = c.args.window in
    let from = c.args.from.now in
    let old = c.loop-place.seen in
    let seen = c.put_new.new.seen in
    let put = c.in_ok-put_new.ensures in
    let i = c.loop-place.invariant in
    record {
      kept = λ t is. c.in_ok-ends.ensures.kept t (i.kept t is);
      held = put.same;
      near = subst (λ d. All (λ p. IsTrue (is_beyond d seen.base p)) from) (sym put.direction)
          (subst (λ b. All (λ p. IsTrue (is_beyond old.direction b p)) from) (sym put.base) i.near);
      direction = put.direction ∙ i.direction;
      found = λ (t : Tree) is.
          one_place_more s t window from c.in_ok-ends.ends.items c.loop-place.all.items c.put_new.new.list.items
          c.loop-place.place-index c.loop-place-test.true (i.found t is) (c.in_ok-ends.ensures.ends t (i.kept t is))
          (rw c.as_slice.ensures.value at put.all);
    }

pub returns-clause-ends : goal.returns-clause-ends
returns-clause-ends c = λ t is.
    subst (λ (xs : List ℕ). AreReached (LeadsInside c.args.text.now t c.args.window) xs c.loop-place.all.items)
    (take_all c.loop-place.place-index c.args.from.now c.loop-place-test.false) (c.loop-place.invariant.found t is)
