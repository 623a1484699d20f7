use Rattle.std.proofs.Common.{◌≡◌, ◌+◌, ◌≤◌, drop, min}
use Rattle.ere_tree.specs.Bound.{digit_count, number_at}
use Rattle.ere_tree.proofs.BoundLemmas.{number_behind}
use Rattle.ere_tree.proofs.bound.digits.Given as goal

abbrev pub invariant-loop-index : goal.invariant-loop-index
invariant-loop-index l = record {
  count : digit_count (drop l.index l.text) + l.index ≡ digit_count l.text;
  number : min 256 (number_behind l.number (drop l.index l.text)) ≡ min 256 (number_at l.text);
  small : l.number ≤ 256;
}
