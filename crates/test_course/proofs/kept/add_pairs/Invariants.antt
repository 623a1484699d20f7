use Rattle.std.proofs.Common.{◌≡◌, ◌+◌, ◌≤◌, ◌^◌, drop}
use Rattle.test_course.specs.Bytes.{bytes_in_pairs, capped}
use Rattle.test_course.proofs.kept.add_pairs.Given as goal

abbrev pub invariant-loop-pair : goal.invariant-loop-pair
invariant-loop-pair l = record {
  most : l.total ≤ 2 ^ 25;
  rest : capped (l.total + bytes_in_pairs (drop l.pair-index l.pairs)) ≡ capped (l.fn.total + bytes_in_pairs l.pairs);
}
