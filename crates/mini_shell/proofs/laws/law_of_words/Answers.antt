use Rattle.mini_shell.proofs.QuotingLemmas.{word_read, word_said}
use Rattle.mini_shell.proofs.laws.law_of_words.Goals as goal

pub returns : goal.returns
returns c = record { read = word_read; said = word_said }
