use Rattle.std.proofs.Common.{◌≤◌, length, sym, subst}
use Rattle.lit_words.specs.Asked.{wanted}
use Rattle.lit_tool.proofs.TestLemmas.{kept_few}
use Rattle.lit_tool.proofs.tests.tests_from.Goals as goal

pub returns-in_ok-into_tests-in-Ok-clause-few : goal.returns-in_ok-into_tests-in-Ok-clause-few
returns-in_ok-into_tests-in-Ok-clause-few g c =
    let tests = c.in_ok-into_tests-in-Ok in
    kept_few (wanted c.args.asked.now) tests.field-0 100000 c.kept_of.result
    (subst (λ found. length found ≤ 100000) (sym tests.ensures) c.in-Ok.ensures.few) c.kept_of.ensures
