use Rattle.std.proofs.Common.{◌≡◌, ◌+◌, ◌*◌, length, map}
use Rattle.std.specs.List.{Contains}
use Rattle.ere_tree.specs.Captures.{Captures, caps_of}
use Rattle.ere_tree.specs.Tree.{trees_of}
use Rattle.ere_tree.specs.View.{view}
use Rattle.ere_refs.proofs.ListedLemmas.{AreOverFirst}
use Rattle.ere_refs.specs.Lists.{Listed, lists_of}
use Rattle.ere_refs.specs.Machine.{ProgressFits, StandsWith, caps_at, nodes, nodes_of, row_nodes}
use Rattle.ere_refs.specs.Site.{AreLong}
use Rattle.ere_refs.proofs.lists.+lists.Given as goal

-- what stands on the stack fits, and has come from what stood there first
abbrev pub invariant-run-loop : goal.invariant-run-loop
invariant-run-loop l = record {
  fits : ProgressFits l.course l.progress;
  stands : (c : Captures) → StandsWith l.course c l.initial.progress.frames.items l.initial.progress
      → StandsWith l.course c l.progress.frames.items l.progress;
}

abbrev pub invariant-over_one-loop-one : goal.invariant-over_one-loop-one
invariant-over_one-loop-one l = record {
  long : AreLong (length l.site.caps.now) (map caps_at l.found.states.items);
  first : (c : Captures) → l.site.caps.now ≡ caps_of l.site.part.start c (length l.site.caps.now) → (all : Listed)
      × AreOverFirst l.site.text.now (trees_of (map view l.choices)) l.site.part.from l.site.part.to c
      (Contains l.site.live.now) l.one-index all
      × (map caps_at l.found.states.items ≡ lists_of l.site.part.start (length l.site.caps.now) all);
}

-- down the tree, along what stands in a row
abbrev pub decreases-over : goal.decreases-over
decreases-over l = 6 * nodes (view l.ere.now)

abbrev pub decreases-over_one : goal.decreases-over_one
decreases-over_one l = 6 * nodes_of (trees_of (map view l.choices.now))

abbrev pub decreases-over_row : goal.decreases-over_row
decreases-over_row l = 6 * row_nodes l.row + 4

abbrev pub decreases-over_parts : goal.decreases-over_parts
decreases-over_parts l = 6 * nodes_of (trees_of (map view l.parts.now)) + 5

abbrev pub decreases-run : goal.decreases-run
decreases-run l = 6 * row_nodes l.course.row + 3

abbrev pub decreases-advance : goal.decreases-advance
decreases-advance l = 6 * row_nodes l.course.row + 1

abbrev pub decreases-over_end : goal.decreases-over_end
decreases-over_end l = 6 * nodes (view l.ere.now) + 1

abbrev pub decreases-step : goal.decreases-step
decreases-step l = 6 * row_nodes l.course.row + 2
