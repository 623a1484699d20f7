use Rattle.lit_find.proofs.LawLemmas.{one_test}
use Rattle.lit_find.proofs.laws.law_of_tests.Goals as goal

pub returns : goal.returns
returns c = one_test
