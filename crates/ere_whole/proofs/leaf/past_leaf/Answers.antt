use Rattle.std.proofs.Common.{◌+◌, sym, ◌∙◌, ap, subst, true≢false}
use Rattle.ere_tree.specs.Derivation.{Spans}
use Rattle.ere_tree.specs.View.{view}
use Rattle.ere_whole.specs.declared.places.Places.{Places}
use Rattle.ere_whole.specs.Places.{AreReached}
use Rattle.ere_whole.proofs.ReachLemmas.{Before, before_skip, before_put}
use Rattle.ere_whole.proofs.leaf.past_leaf.Goals as goal
use Rattle.ere_whole.proofs.leaf.past_leaf.Goals.{then-has+in-Some, then-has+in_default, else-has}

pub loop-place-preserved : goal.loop-place-preserved
loop-place-preserved c =
    let R = Spans c.args.text.now (view c.args.ere.now) in
    let from = c.args.from.now in
    let old = c.loop-place.found in
    let place = c.loop-place.place in
    let known = c.loop-place.invariant in
    elim c.if-has.branch [
      | then-has+in-Some w ↦
          let new = w.put.new.self in
          record {
            block = ap (λ (x : Places). x.block) w.found-is ∙ w.put.ensures.block ∙ known.block;
            reached = subst (AreReached (Before R (place + 1)) from) (sym w.found-is)
                (before_put R from old new place w.in-Some.end (sym c.has.ensures ∙ w.if-has.true) w.in-Some.ensures
                w.put.ensures.block w.put.ensures.held known.reached);
          }
      | then-has+in_default w ↦ record {
        block = ap (λ (x : Places). x.block) w.found-is ∙ known.block;
        reached = subst (AreReached (Before R (place + 1)) from) (sym w.found-is)
            (before_skip R from old place (λ q has step. w.in_default.not-Some q ((w.end_of_leaf.ensures q).1 step))
            known.reached);
      }
      | else-has w ↦ record {
        block = ap (λ (x : Places). x.block) w.found-is ∙ known.block;
        reached = subst (AreReached (Before R (place + 1)) from) (sym w.found-is)
            (before_skip R from old place (λ q has step. true≢false (sym has ∙ sym c.has.ensures ∙ w.if-has.false))
            known.reached);
      }
    ]
