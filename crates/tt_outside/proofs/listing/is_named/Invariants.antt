use Rattle.std.proofs.Common.{◌≡◌, map, drop}
use Rattle.tt_outside.specs.TreeMap.{is_named}
use Rattle.tt_outside.proofs.listing.is_named.Given as goal

abbrev pub invariant-loop-name : goal.invariant-loop-name
invariant-loop-name l =
    is_named (map (λ name. name.now) (drop l.name-index l.names)) l.item ≡ is_named (map (λ name. name.now) l.names) l.item
