use Rattle.std.proofs.Common.{◌≡◌, None, drop}
use Rattle.std.specs.FinMap as map
use Rattle.define_words.specs.Format.{shared}
use Rattle.define_words.proofs.format.shared.Given as goal

abbrev pub invariant-loop-named : goal.invariant-loop-named
invariant-loop-named l =
    shared (map.get l.known) l.seen (drop l.named-index l.uses) ≡ shared (map.get l.known) None l.uses
