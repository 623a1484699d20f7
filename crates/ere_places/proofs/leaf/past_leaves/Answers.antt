use Rattle.std.proofs.Common.{take, ◌+◌, sym, ap, ◌∙◌, subst}
use Rattle.ere_tree.specs.View.{view}
use Rattle.ere_places.specs.Places.{AreReached, LeadsInside}
use Rattle.ere_places.proofs.ReachLemmas.{reached_push, reached_skip, reached_all}
use Rattle.ere_places.proofs.leaf.past_leaves.Goals as goal
use Rattle.ere_places.proofs.leaf.past_leaves.Goals.{in-Some+in_ok-push, in_default}

pub loop-place-preserved : goal.loop-place-preserved
loop-place-preserved c =
    let R = LeadsInside c.args.text.now (view c.args.ere.now) c.args.window in
    let i = c.loop-place.place-index in
    let from = c.args.from.now in
    elim c.match-past_leaf.branch [
      | in-Some+in_ok-push w ↦
          subst (AreReached R (take (i + 1) from))
          (sym (ap (λ v. v.items) w.found-is ∙ w.in_ok-push.ensures.items))
          (reached_push R from c.loop-place.found.items i w.in-Some.end c.loop-place-test.true
          c.loop-place.invariant w.in-Some.ensures)
      | in_default w ↦
          subst (AreReached R (take (i + 1) from)) (sym (ap (λ v. v.items) w.found-is))
          (reached_skip R from c.loop-place.found.items i c.loop-place-test.true c.loop-place.invariant
          (λ q r. absurd (w.in_default.not-Some q ((c.past_leaf.ensures q).1 r))))
    ]

pub returns : goal.returns
returns c = reached_all (LeadsInside c.args.text.now (view c.args.ere.now) c.args.window) c.args.from.now
    c.loop-place.found.items c.loop-place.place-index c.loop-place-test.false c.loop-place.invariant
