use Rattle.std.proofs.Common.{◌≡◌, ◌++◌, ◌-◌, map, take, drop}
use Rattle.ere_tree.specs.Tree.{alt, trees_of}
use Rattle.ere_tree.specs.View.{view, trees_in}
use Rattle.ere_slow.specs.WayView.{captures_of}
use Rattle.ere_slow.specs.Listing.{found_of, begun_of, all_ways, all_rows, alternatives, go_on, required, at_most, all_at, begin_at, members_at}
use Rattle.ere_slow.proofs.slow.+ways.Given as goal

abbrev pub invariant-go_on-loop-row : goal.invariant-go_on-loop-row
invariant-go_on-loop-row l =
    map begun_of l.longer.items
    ≡ go_on l.may_be_empty (all_ways l.text (view l.ere)) (map begun_of (take l.row-index l.rows))

abbrev pub invariant-rows_of_parts-loop-part : goal.invariant-rows_of_parts-loop-part
invariant-rows_of_parts-loop-part l =
    all_rows l.origin.text.now (trees_of (map view (drop l.part-index l.part-items))) (map begun_of l.rows.items)
    ≡ all_rows l.origin.text.now (trees_in l.all) (begin_at l.origin)

abbrev pub invariant-rows_of_members-loop : goal.invariant-rows_of_members-loop
invariant-rows_of_members-loop l =
    required (all_ways l.origin.text.now (view l.inner)) (l.least - l.counter) (map begun_of l.rows.items)
    ≡ required (all_ways l.origin.text.now (view l.inner)) l.least (begin_at l.origin)

abbrev pub invariant-rows_of_members-loop-2 : goal.invariant-rows_of_members-loop-2
invariant-rows_of_members-loop-2 l =
    map begun_of l.all.items ++ at_most (all_ways l.origin.text.now (view l.inner)) (l.more - l.counter)
    (map begun_of l.rows.items)
    ≡ members_at l.origin (view l.inner) l.least l.more

abbrev pub invariant-ways_of_alternatives-loop-index : goal.invariant-ways_of_alternatives-loop-index
invariant-ways_of_alternatives-loop-index l =
    map found_of l.found.items
    ++ alternatives l.origin.text.now (trees_of (map view (drop l.index l.one-items))) l.index l.origin.from
    (captures_of l.origin.captures.now)
    ≡ all_at l.origin (alt (trees_in l.all))
