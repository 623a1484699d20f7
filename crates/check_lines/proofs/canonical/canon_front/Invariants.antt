use Rattle.std.proofs.Common.{◌≡◌, ◌≤◌, ◌-◌, ◌++◌, length, take, drop}
use Rattle.check_lines.specs.Canonical.{canon}
use Rattle.check_lines.proofs.canonical.canon_front.Given as goal

abbrev pub invariant-loop-text : goal.invariant-loop-text
invariant-loop-text l = record {
  long : length l.text ≡ length l.fn.text;
  below : l.done ≤ l.at;
  within : l.at ≤ length l.text;
  same : take l.done l.text ++ canon l.strict (drop l.at l.text) ≡ canon l.strict l.fn.text;
}

abbrev pub decreases-loop-text : goal.decreases-loop-text
decreases-loop-text l = length l.text - l.at
