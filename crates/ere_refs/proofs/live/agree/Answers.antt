use Rattle.std.proofs.Common.{[], ◌∷◌, sym, subst, inl, inr}
use Rattle.std.specs.List.{Contains}
use Rattle.ere_captures.proofs.GreatestLemmas.{the_one}
use Rattle.ere_places.proofs.ListLemmas.{taken}
use Rattle.ere_refs.proofs.live.agree.Goals as goal

pub loop-number-preserved : goal.loop-number-preserved
loop-number-preserved c = λ start d e one other n has.
    elim ((taken c.args.live.now c.loop-number.number-index c.loop-number-test.true n).0 has) [
      | inl before ↦ c.loop-number.invariant start d e one other n before
      | inr is ↦
          c.agree_on.ensures c.if-not-agree_on.false start d e one other n
          (subst (λ k. Contains (k ∷ []) n) (sym is) (the_one n))
    ]
