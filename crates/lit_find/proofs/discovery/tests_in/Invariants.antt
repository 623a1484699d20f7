use Rattle.lit_find.proofs.Names.{◌≡◌, ◌++◌, map, test_in}
use Rattle.std.specs.Vec.Iter.{into_iter_items}
use Rattle.lit_find.proofs.discovery.tests_in.Given as goal

abbrev pub invariant-loop-file : goal.invariant-loop-file
invariant-loop-file l =
    (l.tests ≡ map test_in l.yielded)
    × (l.yielded ++ into_iter_items l.file-iterator ≡ into_iter_items l.initial.file-iterator)
