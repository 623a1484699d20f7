use Rattle.std.proofs.Common.{ℕ, List, get_or, sym, ◌∙◌, subst, inl, inr}
use Rattle.std.specs.List.{Contains}
use Rattle.std.proofs.lemmas.List.{take_all}
use Rattle.ere_places.proofs.ListLemmas.{taken}
use Rattle.ere_reach.proofs.FrameLemmas.{among}
use Rattle.ere_reach.proofs.frame.Frame.is_empty.Goals as goal

pub loop-number-preserved : goal.loop-number-preserved
loop-number-preserved c =
    let own = c.args.self.own.now in
    let others = c.args.self.others.now in
    let i = c.loop-number.number-index in
    λ n at. elim ((taken others i c.loop-number-test.true n).0 at) [
      | inl before ↦ c.loop-number.invariant n before
      | inr is ↦
          subst (Contains own) is
          (among own (get_or others i 0) (sym c.contains.ensures.value ∙ c.if-not-contains.false))
    ]

pub returns : goal.returns
returns c = λ all n at.
    c.loop-number.invariant n
    (subst (λ (xs : List ℕ). Contains xs n)
    (sym (take_all c.loop-number.number-index c.args.self.others.now c.loop-number-test.false)) at)
