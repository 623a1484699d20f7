use Rattle.std.proofs.Common.{ℕ, ◌↔◌, take}
use Rattle.std.specs.List.{Contains}
use Rattle.ere_reach.specs.Live.{reads}
use Rattle.ere_tree.specs.View.{view}
use Rattle.ere_reach.proofs.live.live_before.Given as goal

abbrev pub invariant-loop-number : goal.invariant-loop-number
invariant-loop-number l =
    (n : ℕ) → Contains l.live.items n ↔ reads (view l.ere) (Contains (take l.number-index l.behind)) n
