use Rattle.std.proofs.Common.{◌≡◌, ◌++◌}
use Rattle.std.specs.Vec.Iter.{into_iter_items}
use Rattle.lit_tool.specs.Kept.{names_of}
use Rattle.lit_tool.proofs.kept.names_of.Given as goal

abbrev pub invariant-loop-test : goal.invariant-loop-test
invariant-loop-test l =
    (l.names ≡ names_of l.yielded)
    × (l.yielded ++ into_iter_items l.test-iterator ≡ into_iter_items l.initial.test-iterator)
