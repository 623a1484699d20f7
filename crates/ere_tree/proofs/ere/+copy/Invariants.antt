use Rattle.std.proofs.Common.{◌≡◌, map, take}
use Rattle.ere_tree.specs.View.{view}
use Rattle.ere_tree.proofs.ere.+copy.Given as goal

abbrev pub invariant-EreList::copy-loop-one : goal.invariant-EreList::copy-loop-one
invariant-EreList::copy-loop-one l = map view l.held.items ≡ map view (take l.one-index l.one-items)
