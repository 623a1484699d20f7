use Rattle.std.proofs.Common.{◌≡◌, ◌≤◌, ◌^◌, ◌-◌, ◌++◌, length, drop}
use Rattle.substs.specs.Replacement.{name_rule, replaced}
use Rattle.substs.proofs.replace.replace_found.Given as goal

abbrev pub invariant-loop-at : goal.invariant-loop-at
invariant-loop-at l = record {
  within : l.done ≤ length l.text;
  short : length l.made ≤ 2 ^ 20;
  rest : l.made ++ replaced (name_rule l.name l.value) (drop l.done l.text)
      ≡ replaced (name_rule l.name l.value) l.text;
}

abbrev pub decreases-loop-at : goal.decreases-loop-at
decreases-loop-at l = length l.text - l.done
