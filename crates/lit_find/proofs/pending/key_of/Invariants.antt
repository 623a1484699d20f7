use Rattle.lit_find.proofs.Names.{◌≡◌, map, take}
use Rattle.lit_find.proofs.pending.key_of.Given as goal

abbrev pub invariant-loop-part : goal.invariant-loop-part
invariant-loop-part l = map (λ part. part.items) l.key.items ≡ take l.part-index l.path
