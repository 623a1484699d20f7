use Rattle.std.proofs.Common.{◌≡◌, None, drop}
use Rattle.std.specs.FinMap as map
use Rattle.pattern_parse.specs.Block.{uses_read}
use Rattle.pattern_parse.proofs.block.read_uses.Given as goal

abbrev pub invariant-loop-named : goal.invariant-loop-named
invariant-loop-named l =
    uses_read (map.get l.known) l.defined l.written l.at l.used l.seen (drop l.named-index l.uses)
    ≡ uses_read (map.get l.known) l.defined l.written l.at l.fn.used None l.uses
