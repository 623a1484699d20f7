use Rattle.lit_find.proofs.Names.{◌≡◌, ◌<◌, List, [], ◌∷◌, length, true≢false, Ok, Err, refl, sym, subst, ◌∙◌, arith, TooMany, NoTests, AreTests}
use Rattle.lit_find.proofs.AnswerLemmas.{discovers, discovers_refusal}
use Rattle.lit_find.proofs.finding.discover.Goals as goal

some : {A : Type 0} (xs : List A) → (xs ≡ [] → ⊥) → 0 < length xs
some [] not_none = absurd (not_none refl)
some (x ∷ xs) not_none = omega arith

pub returns-in-Err-clause-found : goal.returns-in-Err-clause-found
returns-in-Err-clause-found g c =
    discovers_refusal (g.T.Tree.nodes c.args.tree.now) (g.T.Tree.root c.args.tree.now) c.args.paths.now c.in-Err.fault
    c.in-Err.ensures.walk

pub returns-then-len-gt-MAX_TESTS-clause-found : goal.returns-then-len-gt-MAX_TESTS-clause-found
returns-then-len-gt-MAX_TESTS-clause-found g c =
    let tests = c.in_order-tests.result in
    discovers (g.T.Tree.nodes c.args.tree.now) (g.T.Tree.root c.args.tree.now) c.args.paths.now c.in-Ok.found tests
    (Err TooMany) c.in-Ok.ensures.walk c.in_order-tests.ensures
    (λ nodes words clear are. (
      clear,
      (tests, are, subst (λ n. 100000 < n) c.len.ensures c.if-len-gt-MAX_TESTS.true),
    ))

pub returns-then-is_empty-clause-found : goal.returns-then-is_empty-clause-found
returns-then-is_empty-clause-found g c =
    discovers (g.T.Tree.nodes c.args.tree.now) (g.T.Tree.root c.args.tree.now) c.args.paths.now c.in-Ok.found
    c.in_order-tests.result (Err NoTests) c.in-Ok.ensures.walk c.in_order-tests.ensures
    (λ nodes words clear are. (clear, subst (AreTests nodes words) (c.is_empty.ensures.0 c.if-is_empty.true) are))

pub returns-clause-found : goal.returns-clause-found
returns-clause-found g c =
    let tests = c.in_order-tests.result in
    discovers (g.T.Tree.nodes c.args.tree.now) (g.T.Tree.root c.args.tree.now) c.args.paths.now c.in-Ok.found tests
    (Ok tests) c.in-Ok.ensures.walk c.in_order-tests.ensures
    (λ nodes words clear are. (
      clear,
      are,
      some tests (λ none. true≢false (sym (c.is_empty.ensures.1 none) ∙ c.if-is_empty.false)),
      omega (arith, c.len.ensures, c.if-len-gt-MAX_TESTS.false),
    ))
