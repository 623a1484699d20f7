use Rattle.std.proofs.Common.{◌≡◌, ◌≤◌, ◌^◌, ◌-◌, ◌++◌, length, drop}
use Rattle.std.specs.Option.{option_and_then, option_map}
use Rattle.substs.specs.Expansion.{expansion, joined, parts, rules_of, within}
use Rattle.substs.proofs.expansion.expand.Given as goal

abbrev pub invariant-loop-at : goal.invariant-loop-at
invariant-loop-at l = record {
  inside : l.from ≤ length l.line;
  short : length l.made ≤ 2 ^ 20;
  rest : option_and_then within (option_map (λ behind. l.made ++ behind)
      (joined (rules_of l.list.pairs l.suite l.line_no) (parts (drop l.from l.line)).0
      (parts (drop l.from l.line)).1))
      ≡ expansion l.list.pairs l.suite l.line_no l.line;
}

abbrev pub decreases-loop-at : goal.decreases-loop-at
decreases-loop-at l = length l.line - l.from
