use Rattle.std.specs.List.{Contains}
use Rattle.ere_refs.proofs.ListedLemmas.{head_best}
use Rattle.ere_refs.proofs.laws.law_of_lists.Goals as goal

pub returns : goal.returns
returns c = record {
  first_is_best = λ s t i j c behind one others over. head_best s t i j c (Contains behind) one others over;
}
