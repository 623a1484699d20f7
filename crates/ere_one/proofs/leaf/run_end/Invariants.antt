use Rattle.std.proofs.Common.{ℕ, ◌<◌, ◌≤◌, slice_index}
use Rattle.std.specs.List.{Contains}
use Rattle.ere_tree.specs.View.{members_of}
use Rattle.ere_one.proofs.leaf.run_end.Given as goal

abbrev pub invariant-loop-index : goal.invariant-loop-index
invariant-loop-index l =
    (n : ℕ) → l.at ≤ n → n < l.index → Contains (members_of l.set.bits) (slice_index l.slice n)
