use Rattle.std.proofs.Common.{◌+◌, Vec, Global, get_or, take, sym, ap, ◌∙◌, subst, refl}
use Rattle.ere_reach.proofs.HeldLemmas.{IsMade, made_push, made_stay}
use Rattle.ere_reach.specs.Held.{part_in}
use Rattle.ere_reach.specs.declared.held.Held.{Held}
use Rattle.ere_reach.proofs.held.kept.Goals as goal
use Rattle.ere_reach.proofs.held.kept.Goals.{in-Some+in_ok-push, in_default}

pub loop-number-preserved : goal.loop-number-preserved
loop-number-preserved c =
    let live = c.args.live.now in
    let i = c.loop-number.number-index in
    let g = part_in c.args.held.now in
    let found = c.loop-number.all.items in
    let low = c.loop-number-test.true in
    elim c.match-part_of.branch [
      | in-Some+in_ok-push w ↦
          let one : Held = record { number = get_or live i 0; part = w.in-Some.part } in
          subst (IsMade g (take (i + 1) live))
          (sym (ap (λ (v : Vec Held Global). v.items) w.all-is ∙ w.in_ok-push.ensures.items))
          (made_push g live i found one low refl (sym c.part_of.ensures ∙ w.in-Some.is) c.loop-number.invariant)
      | in_default w ↦
          subst (IsMade g (take (i + 1) live)) (sym (ap (λ (v : Vec Held Global). v.items) w.all-is))
          (made_stay g live i found low (sym c.part_of.ensures ∙ w.in_default.is) c.loop-number.invariant)
    ]
