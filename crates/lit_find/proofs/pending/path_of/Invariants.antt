use Rattle.lit_find.proofs.Names.{◌≡◌, ◌++◌, map}
use Rattle.std.specs.Vec.Iter.{into_iter_items}
use Rattle.lit_find.proofs.pending.path_of.Given as goal

abbrev pub invariant-loop-part : goal.invariant-loop-part
invariant-loop-part l =
    (l.path ≡ map (λ part. part.items) l.yielded)
    × (l.yielded ++ into_iter_items l.part-iterator ≡ into_iter_items l.initial.part-iterator)
