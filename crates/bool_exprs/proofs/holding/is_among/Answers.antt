use Rattle.std.proofs.Common.{◌≡◌, ℕ, List, sym, refl, true≢false}
use Rattle.bool_exprs.proofs.HoldingLemmas.{one_here, one_later, one_of_all}
use Rattle.bool_exprs.proofs.holding.is_among.Goals as goal

pub returns-then-is_same : goal.returns-then-is_same
returns-then-is_same c =
    let IsSuch : List ℕ → Type 0 = λ feature. feature ≡ c.args.name.now in
    let at = c.loop-feature.feature-index in (
      λ _. one_of_all IsSuch c.args.features.now at (one_here IsSuch c.args.features.now at c.feature-item.result
          c.loop-feature-test.true c.feature-item.is (c.if-is_same.ensures.0 refl)),
      λ _. refl,
    )

pub loop-feature-preserved : goal.loop-feature-preserved
loop-feature-preserved c =
    λ one. one_later (λ feature. feature ≡ c.args.name.now) c.args.features.now c.loop-feature.feature-index
    c.feature-item.result c.loop-feature-test.true c.feature-item.is
    (λ same. true≢false (sym (c.if-is_same.ensures.1 same))) (c.loop-feature.invariant one)
