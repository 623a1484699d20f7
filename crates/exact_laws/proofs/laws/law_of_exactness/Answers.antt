use Rattle.exact_laws.proofs.ExactLemmas.{made_files_are_exact}
use Rattle.exact_laws.proofs.laws.law_of_exactness.Goals as goal

pub returns : goal.returns
returns c = made_files_are_exact
