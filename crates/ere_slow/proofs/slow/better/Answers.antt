use Rattle.std.proofs.Common.{◌≡◌, [], ◌∷◌, ◌++◌, MatchOption, sym, ◌∙◌, subst, true≢false}
use Rattle.ere_slow.specs.Slow.{IsMostPreferred}
use Rattle.ere_slow.proofs.SlowLemmas.{first_is_best, best_stays, best_changes}
use Rattle.ere_slow.proofs.slow.better.Goals as goal

pub returns-in-None : goal.returns-in-None
returns-in-None c = λ ds h.
    let none_yet : ds ≡ [] = subst (λ o. MatchOption o (ds ≡ []) (IsMostPreferred ds)) c.in-None.is h in
    subst (λ xs. IsMostPreferred (xs ++ c.args.one ∷ []) c.args.one) (sym none_yet) (first_is_best c.args.one)

pub returns-then-is_preferred : goal.returns-then-is_preferred
returns-then-is_preferred c = λ ds h.
    best_changes ds c.in-Some.best c.args.one
    (subst (λ o. MatchOption o (ds ≡ []) (IsMostPreferred ds)) c.in-Some.is h)
    (c.is_preferred.ensures.0 c.if-is_preferred.true)

pub returns-else-is_preferred : goal.returns-else-is_preferred
returns-else-is_preferred c = λ ds h.
    best_stays ds c.in-Some.best c.args.one
    (subst (λ o. MatchOption o (ds ≡ []) (IsMostPreferred ds)) c.in-Some.is h)
    (λ p. absurd (true≢false (sym (c.is_preferred.ensures.1 p) ∙ c.if-is_preferred.false)))
