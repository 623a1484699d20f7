-- The loops of the walk down an expression, and why it ends.
-- Each loop goes through the blocks between two places: what was found so far is what is led to through the blocks before.
-- The measures are the hard part: the tree first, then how many members, then how many blocks are left.
use Rattle.std.proofs.Common.{◌≡◌, ◌+◌, ◌*◌, ◌-◌, ◌/◌, ◌<◌, min, length, map, take}
use Rattle.ere_tree.specs.Derivation.{Spans}
use Rattle.ere_tree.specs.Tree.{repeat, trees_of}
use Rattle.ere_tree.specs.View.{view}
use Rattle.ere_places.specs.Places.{SpanAll, SpanOne}
use Rattle.ere_whole.specs.Places.{AreReached, ChainAny, ChainBetween, PastBlock}
use Rattle.ere_whole.proofs.ReachLemmas.{Middle}
use Rattle.ere_whole.proofs.WeightLemmas.{weight, weight_of}
use Rattle.ere_whole.proofs.reach.+image.Given as goal

abbrev pub invariant-through-loop-middle : goal.invariant-through-loop-middle
invariant-through-loop-middle l = record {
  block : l.found.block ≡ l.block;
  reached : AreReached
      (Middle (SpanAll l.text (map view l.first)) (SpanAll l.text (map view l.rest)) l.middle) l.from l.found;
}

abbrev pub invariant-by_one-loop-one : goal.invariant-by_one-loop-one
invariant-by_one-loop-one l = record {
  block : l.found.block ≡ l.block;
  reached : AreReached (SpanOne l.text (map view (take l.one-index l.choices))) l.from l.found;
}

abbrev pub invariant-by_members-loop-middle : goal.invariant-by_members-loop-middle
invariant-by_members-loop-middle l = record {
  block : l.found.block ≡ l.block;
  reached : AreReached
      (Middle (ChainBetween (Spans l.text (view l.inner)) (min l.least l.half) l.half)
      (ChainBetween (Spans l.text (view l.inner)) (l.least - l.half) (l.most - l.half)) l.middle) l.from l.found;
}

abbrev pub invariant-by_any_past-loop-middle : goal.invariant-by_any_past-loop-middle
invariant-by_any_past-loop-middle l = record {
  block : l.found.block ≡ l.block;
  reached : AreReached (Middle (λ p m. (l.last < m / 256) × Spans l.text (view l.inner) p m)
      (ChainAny (Spans l.text (view l.inner))) l.middle) l.from l.found;
}

abbrev pub invariant-by_any-loop-middle : goal.invariant-by_any-loop-middle
invariant-by_any-loop-middle l = record {
  block : l.found.block ≡ l.block;
  reached : AreReached (Middle (ChainAny (Spans l.text (view l.inner)))
      (PastBlock l.last (Spans l.text (view l.inner)) (ChainAny (Spans l.text (view l.inner)))) l.middle)
      l.from l.found;
}

abbrev pub invariant-by_at_least-loop-middle : goal.invariant-by_at_least-loop-middle
invariant-by_at_least-loop-middle l = record {
  block : l.found.block ≡ l.block;
  reached : AreReached (Middle (ChainBetween (Spans l.text (view l.inner)) l.least l.least)
      (ChainAny (Spans l.text (view l.inner))) l.middle) l.from l.found;
}

-- down the tree, and to its lists and the members of its repeats before what is inside; any number of members is made of
-- those over fewer blocks
abbrev pub decreases-image : goal.decreases-image
decreases-image l = 2 * weight (length l.text.now) (view l.ere.now) + 1

abbrev pub decreases-through : goal.decreases-through
decreases-through l = 2 * weight_of (length l.text.now) (trees_of (map view l.parts.now)) + 2

abbrev pub decreases-by_one : goal.decreases-by_one
decreases-by_one l = 2 * weight_of (length l.text.now) (trees_of (map view l.choices.now)) + 2

abbrev pub decreases-by_members : goal.decreases-by_members
decreases-by_members l = 2 * weight (length l.text.now) (view l.inner.now) + 2 * l.most + 2

abbrev pub decreases-by_one_member : goal.decreases-by_one_member
decreases-by_one_member l = 2 * weight (length l.text.now) (view l.inner.now) + 3

abbrev pub decreases-by_repeat : goal.decreases-by_repeat
decreases-by_repeat l = 2 * weight (length l.text.now) (repeat (view l.inner.now) l.least l.most)

abbrev pub decreases-by_any : goal.decreases-by_any
decreases-by_any l = 2 * weight (length l.text.now) (view l.inner.now) + 516 + 4 * (l.block - l.from.now.block)

abbrev pub decreases-by_any_past : goal.decreases-by_any_past
decreases-by_any_past l = 2 * weight (length l.text.now) (view l.inner.now) + 514 + 4 * (l.block - l.last)

abbrev pub decreases-by_at_least : goal.decreases-by_at_least
decreases-by_at_least l = 2 * weight (length l.text.now) (view l.inner.now) + 2 * l.least + 4 * l.block + 518
