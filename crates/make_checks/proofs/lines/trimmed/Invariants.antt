use Rattle.std.proofs.Common.{◌≡◌, ◌≤◌, length}
use Rattle.make_checks.specs.Made.{trimmed}
use Rattle.make_checks.proofs.lines.trimmed.Given as goal

abbrev pub invariant-loop-last : goal.invariant-loop-last
invariant-loop-last l = record {
  same : trimmed l.rest ≡ trimmed l.text;
  within : length l.rest ≤ length l.text;
}

abbrev pub decreases-loop-last : goal.decreases-loop-last
decreases-loop-last l = length l.rest
