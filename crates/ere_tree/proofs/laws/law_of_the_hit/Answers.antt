use Rattle.ere_tree.proofs.HitLemmas as hits
use Rattle.ere_tree.proofs.laws.law_of_the_hit.Goals as goal

pub returns : goal.returns
returns c = record { hit_is_one = hits.hit_is_one }
