use Rattle.lit_suite.proofs.WholeLemmas.{reading_is_whole}
use Rattle.lit_suite.proofs.laws.law_of_suites.Goals as goal

pub returns : goal.returns
returns c = record { whole = reading_is_whole }
