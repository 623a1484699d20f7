use Rattle.lit_claims.proofs.RuleLemmas.{each_once}
use Rattle.lit_claims.proofs.laws.law_of_numbers.Goals as goal

pub returns : goal.returns
returns c = each_once
