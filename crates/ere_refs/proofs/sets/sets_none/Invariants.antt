use Rattle.std.proofs.Common.{◌≡◌, ℕ, false, take}
use Rattle.std.specs.List.{Contains}
use Rattle.ere_refs.specs.Sets.{sets}
use Rattle.ere_tree.specs.View.{view}
use Rattle.ere_refs.proofs.sets.sets_none.Given as goal

abbrev pub invariant-loop-number : goal.invariant-loop-number
invariant-loop-number l = (n : ℕ) → Contains (take l.number-index l.live) n → sets (view l.ere) n ≡ false
