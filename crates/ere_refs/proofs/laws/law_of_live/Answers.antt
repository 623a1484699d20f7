use Rattle.std.specs.List.{Contains}
use Rattle.ere_refs.proofs.LiveLemmas.{live_same}
use Rattle.ere_refs.proofs.laws.law_of_live.Goals as goal

pub returns : goal.returns
returns c = record {
  live_is_enough = λ s t before behind reads. live_same s t (Contains before) (Contains behind) reads;
}
