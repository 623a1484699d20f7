use Rattle.std.proofs.Common.{◌≡◌, ◌≤◌, ◌++◌, length, take, drop}
use Rattle.check_lines.specs.Canonical.{canon}
use Rattle.check_lines.proofs.canonical.put_rest.Given as goal

abbrev pub invariant-loop-k : goal.invariant-loop-k
invariant-loop-k l = record {
  long : length l.text ≡ length l.fn.text;
  below : l.to ≤ l.k;
  same : take l.to l.text ++ canon l.strict (drop l.k l.text)
      ≡ take l.done l.fn.text ++ canon l.strict (drop l.at l.fn.text);
}
