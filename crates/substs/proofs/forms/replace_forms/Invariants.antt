use Rattle.std.proofs.Common.{◌≡◌, ◌≤◌, ◌^◌, ◌-◌, ◌++◌, length, drop}
use Rattle.substs.specs.Replacement.{form_rule, reckoned, replaced}
use Rattle.substs.proofs.forms.replace_forms.Given as goal

abbrev pub invariant-loop-at : goal.invariant-loop-at
invariant-loop-at l = record {
  within : l.done ≤ length l.text;
  short : length l.made ≤ 2 ^ 20;
  rest : l.made ++ replaced (form_rule l.front (reckoned l.ahead l.line)) (drop l.done l.text)
      ≡ replaced (form_rule l.front (reckoned l.ahead l.line)) l.text;
}

abbrev pub decreases-loop-at : goal.decreases-loop-at
decreases-loop-at l = length l.text - l.done
