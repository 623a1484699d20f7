use Rattle.std.proofs.Common.{◌-◌, ◌≤◌, All, length}
use Rattle.check_lint.proofs.lint.remarks.Given as goal

abbrev pub invariant-loop-remarks : goal.invariant-loop-remarks
invariant-loop-remarks l = record {
  within : l.start ≤ length l.text;
  placed : All (λ remark. remark.at ≤ length l.text) l.remarks.items;
}

abbrev pub decreases-loop-remarks : goal.decreases-loop-remarks
decreases-loop-remarks l = length l.text - l.start
