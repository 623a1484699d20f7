use Rattle.std.proofs.Common.{◌≡◌, ◌≤◌, drop, length}
use Rattle.check_group.specs.Group.{lowest}
use Rattle.check_group.proofs.ranges.lowest_overlapped.Given as goal

abbrev pub invariant-loop-number : goal.invariant-loop-number
invariant-loop-number l = record {
  within : l.number ≤ length l.ranges.items;
  same : lowest l.m (drop l.number l.ranges.items) ≡ lowest l.m (drop l.at l.ranges.items);
}
