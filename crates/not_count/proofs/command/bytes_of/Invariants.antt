use Rattle.std.proofs.Common.{◌≡◌, take}
use Rattle.opt_words.specs.Step.{texts}
use Rattle.not_count.proofs.command.bytes_of.Given as goal

abbrev pub invariant-loop-word : goal.invariant-loop-word
invariant-loop-word l = l.list ≡ texts (take l.word-index l.words)
