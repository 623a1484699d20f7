use Rattle.std.proofs.Common.{◌≡◌, sym, refl, subst, ◌∙◌, true≢false}
use Rattle.ere_tree.specs.View.{view}
use Rattle.ere_whole.specs.Whole.{MatchesWhole}
use Rattle.bool_exprs.proofs.HoldingLemmas.{one_here, one_later, one_of_all}
use Rattle.bool_exprs.proofs.holding.matches_one.Goals as goal

pub returns-then-matches_whole : goal.returns-then-matches_whole
returns-then-matches_whole c =
    let IsSuch = MatchesWhole (view c.args.ere.now) in
    let at = c.loop-feature.feature-index in (
      λ _. one_of_all IsSuch c.args.features.now at (one_here IsSuch c.args.features.now at c.feature-item.result
          c.loop-feature-test.true c.feature-item.is
          (subst IsSuch c.as_slice.ensures (c.matches_whole.ensures.exact.0 c.if-matches_whole.true))),
      λ _. refl,
    )

pub loop-feature-preserved : goal.loop-feature-preserved
loop-feature-preserved c =
    let IsSuch = MatchesWhole (view c.args.ere.now) in
    λ one. one_later IsSuch c.args.features.now c.loop-feature.feature-index c.feature-item.result
    c.loop-feature-test.true c.feature-item.is
    (λ whole. true≢false (sym (c.matches_whole.ensures.exact.1 (subst IsSuch (sym c.as_slice.ensures) whole))
    ∙ c.if-matches_whole.false)) (c.loop-feature.invariant one)
