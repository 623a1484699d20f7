use Rattle.std.proofs.Common.{◌≡◌, ◌++◌, drop}
use Rattle.define_words.specs.Defined.{known_by, words_of}
use Rattle.define_words.specs.View.{reads_view}
use Rattle.define_words.proofs.defined.read_all.Given as goal

abbrev pub invariant-loop-value : goal.invariant-loop-value
invariant-loop-value l =
    (reads_view l.reads ++ words_of l.known (drop l.value-index l.values) ≡ words_of l.fn.known l.values)
    × (known_by l.known (words_of l.known (drop l.value-index l.values)) ≡ known_by l.fn.known
    (words_of l.fn.known l.values))
