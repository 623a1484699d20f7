use Rattle.check_group.proofs.LawLemmas.{chain_apart}
use Rattle.check_group.proofs.laws.members_apart.Goals as goal

pub returns : goal.returns
returns c = chain_apart
