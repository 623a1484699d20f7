use Rattle.std.proofs.Common.{◌≡◌, ◌≤◌, ◌^◌, Some, length, drop}
use Rattle.substs.specs.Expansion.{after_all, name_rules}
use Rattle.substs.proofs.expansion.replace_names.Given as goal

abbrev pub invariant-loop-pair : goal.invariant-loop-pair
invariant-loop-pair l = record {
  short : length l.text ≤ 2 ^ 20;
  rest : after_all (name_rules (drop l.pair-index l.pairs)) (Some l.text)
      ≡ after_all (name_rules l.fn.pairs) (Some l.fn.text);
}
