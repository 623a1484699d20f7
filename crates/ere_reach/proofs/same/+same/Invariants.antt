use Rattle.std.proofs.Common.{◌≡◌, map, take}
use Rattle.ere_tree.specs.View.{view}
use Rattle.ere_reach.proofs.same.+same.Given as goal

abbrev pub invariant-are_all_one-loop-index : goal.invariant-are_all_one-loop-index
invariant-are_all_one-loop-index l = map view (take l.index l.all) ≡ map view (take l.index l.others)
