use Rattle.std.proofs.Common.{◌≡◌, length, take}
use Rattle.check_lines.proofs.UnusedLemmas.{AreUsed}
use Rattle.check_lines.proofs.checks.unused_prefix.Given as goal

abbrev pub invariant-loop-one : goal.invariant-loop-one
invariant-loop-one l = record {
  long : length l.used.items ≡ l.count;
  are : AreUsed (take l.one-index l.directives) l.used.items 0;
}
