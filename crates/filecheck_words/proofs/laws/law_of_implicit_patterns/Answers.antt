use Rattle.filecheck_words.proofs.ImplicitLemmas.{patterns_are_lines}
use Rattle.filecheck_words.proofs.laws.law_of_implicit_patterns.Goals as goal

pub returns : goal.returns
returns c = record { lines = patterns_are_lines }
