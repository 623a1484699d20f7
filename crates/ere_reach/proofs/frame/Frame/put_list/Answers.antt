use Rattle.std.proofs.Common.{◌≡◌, ℕ, ◌+◌, if◌then◌else◌, List, Vec, Global, Bor, get_or, take, refl, sym, ap, ◌∙◌, subst}
use Rattle.std.proofs.lemmas.List.{take_all}
use Rattle.ere_reach.specs.Held.{part_in}
use Rattle.ere_reach.specs.declared.held.Held.{Held}
use Rattle.ere_reach.proofs.FrameLemmas.{chosen, framed_by}
use Rattle.ere_reach.proofs.HeldLemmas.{IsMade, made_push, made_stay}
use Rattle.ere_reach.proofs.frame.Frame.put_list.Goals as goal
use Rattle.ere_reach.proofs.frame.Frame.put_list.Goals.{then-contains, else-contains, in-Some+in_ok-push, in_default}

pub loop-number-preserved : goal.loop-number-preserved
loop-number-preserved c =
    let frame = c.args.self in
    let inside = c.args.inside.now in
    let others = frame.others.now in
    let i = c.loop-number.number-index in
    let x = get_or others i 0 in
    let g = chosen frame.own.now frame.held.now inside in
    let found = c.loop-number.list.items in
    let low = c.loop-number-test.true in
    let asked : g x ≡ c.part_of.result = elim c.if-contains.branch [
      | then-contains w ↦
          ap (λ v. if v then part_in inside x else part_in frame.held.now x)
          (sym c.contains.ensures.value ∙ w.if-contains.true)
          ∙ ap (λ (b : Bor (List Held)). part_in b.now x) (sym w.from-is) ∙ sym c.part_of.ensures
      | else-contains w ↦
          ap (λ v. if v then part_in inside x else part_in frame.held.now x)
          (sym c.contains.ensures.value ∙ w.if-contains.false)
          ∙ ap (λ (b : Bor (List Held)). part_in b.now x) (sym w.from-is) ∙ sym c.part_of.ensures
    ] in
    elim c.match-part_of.branch [
      | in-Some+in_ok-push w ↦
          let one : Held = record { number = x; part = w.in-Some.part } in
          subst (IsMade g (take (i + 1) others))
          (sym (ap (λ (v : Vec Held Global). v.items) w.list-is ∙ w.in_ok-push.ensures.items))
          (made_push g others i found one low refl (asked ∙ w.in-Some.is) c.loop-number.invariant)
      | in_default w ↦
          subst (IsMade g (take (i + 1) others)) (sym (ap (λ (v : Vec Held Global). v.items) w.list-is))
          (made_stay g others i found low (asked ∙ w.in_default.is) c.loop-number.invariant)
    ]

pub returns : goal.returns
returns c =
    let frame = c.args.self in
    let inside = c.args.inside.now in
    let list = c.loop-number.list.items in
    framed_by frame.own.now frame.others.now frame.held.now inside list
    (subst (λ (xs : List ℕ). IsMade (chosen frame.own.now frame.held.now inside) xs list)
    (take_all c.loop-number.number-index frame.others.now c.loop-number-test.false) c.loop-number.invariant)
