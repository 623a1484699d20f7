use Rattle.std.proofs.Common.{◌≡◌, map, drop}
use Rattle.ere_tree.specs.Tree.{trees_of}
use Rattle.ere_tree.specs.View.{view}
use Rattle.ere_match.specs.Begins.{any_may_hold_newline}
use Rattle.ere_match.proofs.literal.+newlines.Given as goal

abbrev pub invariant-any_may_hold_newline-loop-one : goal.invariant-any_may_hold_newline-loop-one
invariant-any_may_hold_newline-loop-one l =
    any_may_hold_newline (trees_of (map view (drop l.one-index l.all)))
    ≡ any_may_hold_newline (trees_of (map view l.fn.all))
