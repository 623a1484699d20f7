use Rattle.std.proofs.Common.{◌≡◌, ℕ, ◌+◌, ◌*◌, ◌-◌, ◌<◌, ◌≤◌, false, Some, length, map, drop}
use Rattle.ere_captures.specs.Walk.{AreRests, RestOf, less_one}
use Rattle.ere_places.specs.Places.{SpanAll, SpanOne}
use Rattle.ere_tree.specs.Derivation.{Spans, tree_at}
use Rattle.ere_tree.specs.Shape.{any_has_refs, greatest_group_of}
use Rattle.ere_tree.specs.Tree.{Tree, repeat, trees_of}
use Rattle.ere_tree.specs.View.{view}
use Rattle.ere_captures.proofs.DepthLemmas.{depth, depth_of}
use Rattle.ere_captures.proofs.WalkLemmas.{PartsTo, MembersTo}
use Rattle.ere_captures.proofs.walk.+walk.Given as goal

abbrev pub invariant-walk_parts-loop-one : goal.invariant-walk_parts-loop-one
invariant-walk_parts-loop-one l = record {
  no_refs : any_has_refs (trees_of (map view l.rest)) ≡ false;
  room : greatest_group_of (trees_of (map view l.rest)) ≤ length l.fn.caps;
  depth : depth_of (trees_of (map view l.rest)) ≤ depth_of (trees_of (map view l.parts));
  order : l.part.from ≤ l.from;
  span : SpanAll l.text (map view l.rest) l.from l.part.to;
  held : AreRests l.text l.rest l.part.from l.part.to l.held;
  goes : PartsTo l.text (map view l.parts) (map view l.rest) l.part.start (length l.fn.caps)
      l.part.from l.from l.part.to l.fn.caps l.caps;
}

abbrev pub decreases-walk_parts-loop-one : goal.decreases-walk_parts-loop-one
decreases-walk_parts-loop-one l = length l.rest

abbrev pub invariant-walk_one-loop-one : goal.invariant-walk_one-loop-one
invariant-walk_one-loop-one l = record {
  rest : SpanOne l.text (map view (drop l.one-index l.choices)) l.part.from l.part.to;
  first : (k : ℕ) (u : Tree) → k < l.one-index → tree_at (trees_of (map view l.choices)) k ≡ Some u
      → Spans l.text u l.part.from l.part.to → ⊥;
  same : l.caps ≡ l.fn.caps;
}

abbrev pub invariant-walk_members-loop-least : goal.invariant-walk_members-loop-least
invariant-walk_members-loop-least l = record {
  order : l.part.from ≤ l.from;
  span : Spans l.text (repeat (view l.inner) l.least l.most) l.from l.part.to;
  held : RestOf l.text (view l.inner) (l.least - 1) (less_one l.most) l.part.from l.part.to l.set;
  goes : MembersTo l.text (view l.inner) l.fn.least l.fn.most l.least l.most l.part.start (length l.fn.caps)
      l.part.from l.from l.part.to l.fn.caps l.caps;
}

abbrev pub decreases-walk_members-loop-least : goal.decreases-walk_members-loop-least
decreases-walk_members-loop-least l = l.least + (l.part.to - l.from)

-- down the tree, and to a list of trees before each of them
abbrev pub decreases-walk : goal.decreases-walk
decreases-walk l = 2 * depth (view l.ere.now) + 1

abbrev pub decreases-walk_parts : goal.decreases-walk_parts
decreases-walk_parts l = 2 * depth_of (trees_of (map view l.parts.now)) + 2

abbrev pub decreases-walk_one : goal.decreases-walk_one
decreases-walk_one l = 2 * depth_of (trees_of (map view l.choices.now)) + 2

abbrev pub decreases-walk_members : goal.decreases-walk_members
decreases-walk_members l = 2 * depth (view l.inner.now) + 2
