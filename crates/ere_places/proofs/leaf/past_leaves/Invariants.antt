use Rattle.std.proofs.Common.{take}
use Rattle.ere_tree.specs.View.{view}
use Rattle.ere_places.specs.Places.{AreReached, LeadsInside}
use Rattle.ere_places.proofs.leaf.past_leaves.Given as goal

abbrev pub invariant-loop-place : goal.invariant-loop-place
invariant-loop-place l =
    AreReached (LeadsInside l.text (view l.ere) l.window) (take l.place-index l.from) l.found.items
