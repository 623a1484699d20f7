use Rattle.std.proofs.Common.{◌≡◌, map, take}
use Rattle.ere_tree.specs.Folded.{folded}
use Rattle.ere_tree.specs.View.{view}
use Rattle.ere_tree.proofs.ere.+fold.Given as goal

abbrev pub invariant-EreList::in_both_cases-loop-one : goal.invariant-EreList::in_both_cases-loop-one
invariant-EreList::in_both_cases-loop-one l =
    map view l.held.items ≡ map folded (map view (take l.one-index l.one-items))
