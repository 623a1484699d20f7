use Rattle.std.proofs.Common.{ℕ, ◌↔◌, ◌⊎◌, map, drop}
use Rattle.std.specs.List.{Contains}
use Rattle.ere_reach.specs.Refers.{OneRefers}
use Rattle.ere_tree.specs.Tree.{trees_of}
use Rattle.ere_tree.specs.View.{view}
use Rattle.ere_reach.proofs.live.+put_refs.Given as goal

abbrev pub invariant-put_all_refs-loop-one : goal.invariant-put_all_refs-loop-one
invariant-put_all_refs-loop-one l =
    (n : ℕ) → (Contains l.numbers.items n ⊎ OneRefers (trees_of (map view (drop l.one-index l.all))) n)
    ↔ (Contains l.initial.numbers.items n ⊎ OneRefers (trees_of (map view l.all)) n)
