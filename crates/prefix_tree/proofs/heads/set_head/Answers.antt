use Rattle.std.proofs.lemmas.List.{get_or-replicate}
use Rattle.std.proofs.Common.{true, false}
use Rattle.prefix_tree.proofs.HeadsLemmas.{all_stay}
use Rattle.prefix_tree.proofs.heads.set_head.Goals as goal

pub returns-in-empty-clause-head : goal.returns-in-empty-clause-head
returns-in-empty-clause-head c = λ byte rest small begins. get_or-replicate 256 byte true false small

pub returns-in-empty-clause-stay : goal.returns-in-empty-clause-stay
returns-in-empty-clause-stay c = λ byte was. all_stay c.args.heads.now byte c.told-heads was
