use Rattle.std.proofs.Common.{◌≡◌, ◌≤◌, ◌++◌, ◌-◌, length, take, drop}
use Rattle.check_group.specs.Group.{placed_among}
use Rattle.check_group.proofs.ranges.lower_count.Given as goal

abbrev pub invariant-loop-at : goal.invariant-loop-at
invariant-loop-at l = record {
  within : l.at ≤ length l.ranges.items;
  same : take l.at l.ranges.items ++ placed_among l.m (drop l.at l.ranges.items) ≡ placed_among l.m l.ranges.items;
}

abbrev pub decreases-loop-at : goal.decreases-loop-at
decreases-loop-at l = length l.ranges.items - l.at
