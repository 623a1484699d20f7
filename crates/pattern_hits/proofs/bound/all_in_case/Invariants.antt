use Rattle.std.proofs.Common.{◌≡◌, ◌++◌, drop, map}
use Rattle.pattern_hits.specs.Bound.{in_case}
use Rattle.pattern_hits.proofs.bound.all_in_case.Given as goal

abbrev pub invariant-loop-byte : goal.invariant-loop-byte
invariant-loop-byte l =
    l.made.items ++ map (in_case l.kind) (drop l.byte-index l.text) ≡ map (in_case l.kind) l.text
