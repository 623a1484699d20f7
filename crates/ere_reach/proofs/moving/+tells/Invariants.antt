use Rattle.std.proofs.Common.{◌≡◌, map, drop}
use Rattle.ere_reach.specs.Moving.{one_sets_one}
use Rattle.ere_tree.specs.Shape.{any_has_refs}
use Rattle.ere_tree.specs.Tree.{trees_of}
use Rattle.ere_tree.specs.View.{view}
use Rattle.ere_reach.proofs.moving.+tells.Given as goal

abbrev pub invariant-one_refers_or_sets-loop-one : goal.invariant-one_refers_or_sets-loop-one
invariant-one_refers_or_sets-loop-one l = record {
  refers : any_has_refs (trees_of (map view (drop l.one-index l.all))) ≡ any_has_refs (trees_of (map view l.all));
  sets : one_sets_one (trees_of (map view (drop l.one-index l.all))) l.live
      ≡ one_sets_one (trees_of (map view l.all)) l.live;
}
