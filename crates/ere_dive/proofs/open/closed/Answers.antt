use Rattle.std.proofs.Common.{List, Vec, Global, sym, ap, ◌∙◌, subst, inl, inr}
use Rattle.std.proofs.lemmas.List.Elements.{Contains-get_or, Contains-push_cases}
use Rattle.std.specs.List.{Contains}
use Rattle.ere_dive.specs.declared.task.Held.{Held}
use Rattle.ere_dive.proofs.open.closed.Goals.{then-contains+in_ok-push-2, else-contains, then-one-number+in_ok-push, else-one-number}
use Rattle.ere_dive.proofs.open.closed.Goals as goal

pub loop-one-preserved : goal.loop-one-preserved
loop-one-preserved c = λ x at. elim c.if-one-number.branch [
  | then-one-number+in_ok-push w ↦
      elim (Contains-push_cases c.loop-one.found.items _ x
      (subst (λ (all : List Held). Contains all x)
      (ap (λ (v : Vec Held Global). v.items) w.found-is ∙ w.in_ok-push.ensures.items) at)) [
        | inl was ↦ c.loop-one.invariant x was
        | inr is ↦ (
          subst (Contains c.args.held.now) is
              (Contains-get_or c.args.held.now c.loop-one.one-index _ c.loop-one-test.true),
          λ e. w.if-one-number.true (ap (λ (h : Held). h.number) is ∙ e),
        )
      ]
  | else-one-number w ↦
      c.loop-one.invariant x (subst (λ (v : Vec Held Global). Contains v.items x) w.found-is at)
]

pub returns : goal.returns
returns c = λ x at. elim c.if-contains.branch [
  | then-contains+in_ok-push-2 w ↦
      let one : Held = record { number = c.args.number; part = c.args.part; sum = w.match-get.sum } in
      elim (Contains-push_cases c.loop-one.found.items one x
      (subst (λ (all : List Held). Contains all x) (ap (λ (v : Vec Held Global). v.items) w.found-is ∙ w.in_ok-push-2.ensures.items) at)) [
        | inl was ↦ inr (c.loop-one.invariant x was)
        | inr is ↦ inl (sym (ap (λ (h : Held). h.number) is), sym (ap (λ (h : Held). h.part.from) is), sym (ap (λ (h : Held). h.part.to) is))
      ]
  | else-contains w ↦ inr (c.loop-one.invariant x (subst (λ (v : Vec Held Global). Contains v.items x) w.found-is at))
]
