use Rattle.word_laws.proofs.WordLemmas.{words_are_steps}
use Rattle.word_laws.proofs.laws.law_of_words.Goals as goal

pub returns : goal.returns
returns c = words_are_steps
