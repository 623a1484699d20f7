use Rattle.std.proofs.Common.{◌+◌, List, Vec, ℕ, Global, take, sym, ap, ◌∙◌, subst}
use Rattle.std.proofs.lemmas.List.{take_all}
use Rattle.ere_reach.proofs.LiveLemmas.{reads_put, reads_skip}
use Rattle.ere_reach.specs.Live.{AreRead, reads}
use Rattle.ere_tree.specs.View.{view}
use Rattle.ere_reach.proofs.live.live_before.Goals as goal
use Rattle.ere_reach.proofs.live.live_before.Goals.{then-not-surely_sets+in_ok-put_number, else-not-surely_sets}

pub loop-number-preserved : goal.loop-number-preserved
loop-number-preserved c =
    let t = view c.args.ere.now in
    let behind = c.args.behind.now in
    let k = c.loop-number.number-index in
    let old = c.loop-number.live.items in
    elim c.if-not-surely_sets.branch [
      | then-not-surely_sets+in_ok-put_number w ↦
          subst (AreRead (reads t) (take (k + 1) behind)) (ap (λ (v : Vec ℕ Global). v.items) (sym w.live-is))
          (reads_put t behind k old w.put_number.new.numbers.items c.loop-number-test.true
          (sym c.surely_sets.ensures ∙ w.if-not-surely_sets.true) c.loop-number.invariant w.in_ok-put_number.ensures)
      | else-not-surely_sets w ↦
          subst (AreRead (reads t) (take (k + 1) behind)) (ap (λ (v : Vec ℕ Global). v.items) (sym w.live-is))
          (reads_skip t behind k old c.loop-number-test.true
          (sym c.surely_sets.ensures ∙ w.if-not-surely_sets.false) c.loop-number.invariant)
    ]

pub returns : goal.returns
returns c =
    subst (λ (xs : List ℕ). AreRead (reads (view c.args.ere.now)) xs c.loop-number.live.items)
    (take_all c.loop-number.number-index c.args.behind.now c.loop-number-test.false) c.loop-number.invariant
