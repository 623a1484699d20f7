use Rattle.std.proofs.Common.{◌≤◌, ◌-◌, All, length, take}
use Rattle.check_group.specs.Group.{EndsBy}
use Rattle.check_group.proofs.ranges.passed.Given as goal

abbrev pub invariant-loop-low : goal.invariant-loop-low
invariant-loop-low l = record {
  ordered : l.low ≤ l.high;
  within : l.high ≤ length l.ranges.items;
  before : All (EndsBy l.from) (take l.low l.ranges.items);
}

abbrev pub decreases-loop-low : goal.decreases-loop-low
decreases-loop-low l = l.high - l.low
