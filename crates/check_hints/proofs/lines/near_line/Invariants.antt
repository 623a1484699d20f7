use Rattle.std.proofs.Common.{◌≤◌, IfSome, length}
use Rattle.check_hints.proofs.lines.near_line.Given as goal

abbrev pub invariant-loop-line : goal.invariant-loop-line
invariant-loop-line l = IfSome l.found (λ at. at ≤ length l.text)
