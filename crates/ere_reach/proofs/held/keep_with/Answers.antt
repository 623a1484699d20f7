use Rattle.std.proofs.Common.{◌≡◌, ◌+◌, ◌==◌, if◌then◌else◌, Option, Vec, Global, get_or, take, sym, ap, ◌∙◌, subst, refl, ℕ, eq-eqb}
use Rattle.std.proofs.lemmas.Bool.{ne_eqb}
use Rattle.ere_tree.specs.declared.hit.Cap.{Cap}
use Rattle.ere_reach.proofs.HeldLemmas.{IsMade, made_push, made_stay}
use Rattle.ere_reach.specs.Held.{part_in}
use Rattle.ere_reach.specs.declared.held.Held.{Held}
use Rattle.ere_reach.proofs.held.keep_with.Goals as goal
use Rattle.ere_reach.proofs.held.keep_with.Goals.{then-number-own, else-number-own, in-Some+in_ok-push, in_default}

pub loop-number-preserved : goal.loop-number-preserved
loop-number-preserved c =
    let live = c.args.live.now in
    let i = c.loop-number.number-index in
    let g : ℕ → Option Cap = λ n. if n == c.args.own then c.args.part else part_in c.args.held.now n in
    let found = c.loop-number.list.items in
    let low = c.loop-number-test.true in
    let asked : g (get_or live i 0) ≡ c.if-number-own.part = elim c.if-number-own.branch [
      | then-number-own w ↦
          ap (λ v. if v then c.args.part else part_in c.args.held.now (get_or live i 0))
          (eq-eqb (get_or live i 0) c.args.own w.if-number-own.true)
          ∙ sym w.part-is
      | else-number-own w ↦
          ap (λ v. if v then c.args.part else part_in c.args.held.now (get_or live i 0))
          (ne_eqb (get_or live i 0) c.args.own w.if-number-own.false)
          ∙ sym w.part_of-part.ensures ∙ sym w.part-is
    ] in
    elim c.match-part.branch [
      | in-Some+in_ok-push w ↦
          let one : Held = record { number = get_or live i 0; part = w.in-Some.part } in
          subst (IsMade g (take (i + 1) live))
          (sym (ap (λ (v : Vec Held Global). v.items) w.list-is ∙ w.in_ok-push.ensures.items))
          (made_push g live i found one low refl (asked ∙ w.in-Some.is) c.loop-number.invariant)
      | in_default w ↦
          subst (IsMade g (take (i + 1) live)) (sym (ap (λ (v : Vec Held Global). v.items) w.list-is))
          (made_stay g live i found low (asked ∙ w.in_default.is) c.loop-number.invariant)
    ]
