use Rattle.std.proofs.Common.{◌≡◌, ◌≤◌, ◌-◌, ◌+◌, ℕ, All, length, take}
use Rattle.check_group.specs.Matches.{looked}
use Rattle.check_group.specs.Group.{EndsBy, placed, tried}
use Rattle.check_group.specs.Tries.{AreFor}
use Rattle.check_group.proofs.group.place_member.Given as goal

abbrev pub invariant-loop-tries : goal.invariant-loop-tries
invariant-loop-tries g l = record {
  behind : l.place ≤ l.from;
  same : AreFor l.tries l.check l.context.vars.now;
  within : l.from ≤ length l.context.text.now;
  at : l.at ≤ length l.ranges.items;
  passed : All (EndsBy l.from) (take l.at l.ranges.items);
  chain : (left : ℕ) × (length l.context.text.now ≤ l.from + left)
      × (tried (looked l.context.text.now l.context.vars.now l.check 0) l.ranges.items left l.from ≡ placed l.context.text.now l.context.vars.now l.ranges.items l.check l.place);
}

abbrev pub decreases-loop-tries : goal.decreases-loop-tries
decreases-loop-tries g l = length l.context.text.now - l.from
