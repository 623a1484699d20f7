use Rattle.std.proofs.Common.{◌≡◌, drop}
use Rattle.tt_outside.specs.Listing.{listed, with_items}
use Rattle.tt_outside.specs.TreeMap.{front_of}
use Rattle.tt_outside.proofs.listing.list_nodes.Given as goal

abbrev pub invariant-loop-node : goal.invariant-loop-node
invariant-loop-node l =
    with_items l.nodes (front_of l.dir) l.items (drop l.node-index l.nodes) ≡ listed l.nodes l.dir
