use Rattle.block_laws.proofs.CompleteLemmas.{complete}
use Rattle.block_laws.proofs.SoundLemmas.{sound}
use Rattle.block_laws.proofs.laws.law_of_blocks.Goals as goal

pub returns : goal.returns
returns c = record { grammar = record { sound = sound; complete = complete } }
