use Rattle.std.proofs.Common.{◌≡◌, ◌++◌, map, drop}
use Rattle.filecheck_words.proofs.prefixes.add_parts.Given as goal

abbrev pub invariant-loop-part : goal.invariant-loop-part
invariant-loop-part l =
    l.prefixes ++ map (λ part. part.now) (drop l.part-index l.parts) ≡ l.fn.prefixes ++ map (λ part. part.now) l.parts
