use Rattle.std.proofs.Common.{◌≡◌, drop}
use Rattle.std.specs.FinMap as map
use Rattle.define_words.specs.Defined.{fresh_by}
use Rattle.define_words.specs.View.{reads_view}
use Rattle.define_words.proofs.DefinedLemmas.{behind}
use Rattle.define_words.proofs.defined.fresh_by.Given as goal

abbrev pub invariant-loop-read : goal.invariant-loop-read
invariant-loop-read l =
    behind l.fresh (fresh_by l.numbers (reads_view (drop l.read-index l.reads)))
    ≡ fresh_by map.empty (reads_view l.reads)
