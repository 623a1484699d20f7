use Rattle.std.proofs.Common.{◌≡◌, ◌+◌, ◌≤◌, ◌^◌, drop}
use Rattle.test_course.specs.Bytes.{bytes_in, capped}
use Rattle.test_course.proofs.kept.add_texts.Given as goal

abbrev pub invariant-loop-text : goal.invariant-loop-text
invariant-loop-text l = record {
  most : l.total ≤ 2 ^ 25;
  rest : capped (l.total + bytes_in (drop l.text-index l.texts)) ≡ capped (l.fn.total + bytes_in l.texts);
}
