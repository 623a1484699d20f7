use Rattle.check_group.proofs.LawLemmas.{tries_chain}
use Rattle.check_group.proofs.laws.tries_are_a_chain.Goals as goal

pub returns : goal.returns
returns c = tries_chain
