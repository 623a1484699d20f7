use Rattle.std.proofs.Common.{◌≡◌, map, drop}
use Rattle.ere_reach.specs.Moving.{one_has_byte, each_has_byte}
use Rattle.ere_tree.specs.Tree.{trees_of}
use Rattle.ere_tree.specs.View.{view}
use Rattle.ere_reach.proofs.moving.+moves.Given as goal

abbrev pub invariant-one_has_byte-loop-one : goal.invariant-one_has_byte-loop-one
invariant-one_has_byte-loop-one l =
    one_has_byte (trees_of (map view (drop l.one-index l.all))) ≡ one_has_byte (trees_of (map view l.all))

abbrev pub invariant-each_has_byte-loop-one : goal.invariant-each_has_byte-loop-one
invariant-each_has_byte-loop-one l =
    each_has_byte (trees_of (map view (drop l.one-index l.all))) ≡ each_has_byte (trees_of (map view l.all))
