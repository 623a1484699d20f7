use Rattle.std.proofs.Common.{◌≤◌, ◌-◌, length, take}
use Rattle.std.specs.List.{AllByRecursion}
use Rattle.check_scan.specs.Blocks.{IsLabel}
use Rattle.check_scan.proofs.labels.next_label.Given as goal

abbrev pub invariant-loop-at : goal.invariant-loop-at
invariant-loop-at l = record {
  within : l.at ≤ length l.checks;
  others : AllByRecursion (λ c. IsLabel c → ⊥) (take l.at l.checks);
}

abbrev pub decreases-loop-at : goal.decreases-loop-at
decreases-loop-at l = length l.checks - l.at
