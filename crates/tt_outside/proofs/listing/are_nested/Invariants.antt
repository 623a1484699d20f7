use Rattle.std.proofs.Common.{◌≡◌, drop}
use Rattle.std.specs.List.{list_all}
use Rattle.tt_outside.specs.TreeMap.{is_nested}
use Rattle.tt_outside.proofs.listing.are_nested.Given as goal

abbrev pub invariant-loop-node : goal.invariant-loop-node
invariant-loop-node l = list_all (is_nested l.nodes) (drop l.node-index l.nodes) ≡ list_all (is_nested l.nodes) l.nodes
