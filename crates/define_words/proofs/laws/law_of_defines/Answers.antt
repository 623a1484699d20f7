use Rattle.define_words.proofs.LawLemmas.{format_is_of_blocks, refused_is_first}
use Rattle.define_words.proofs.laws.law_of_defines.Goals as goal

pub returns : goal.returns
returns c = record { format = format_is_of_blocks; first = refused_is_first }
