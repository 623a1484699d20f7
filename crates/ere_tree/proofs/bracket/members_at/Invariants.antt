use Rattle.std.proofs.Common.{◌≡◌, ◌-◌, ◌≤◌, false, true, drop, length}
use Rattle.ere_tree.specs.Bracket.{members}
use Rattle.ere_tree.specs.View.{has_bit}
use Rattle.ere_tree.proofs.bracket.members_at.Given as goal

abbrev pub invariant-loop-at : goal.invariant-loop-at
invariant-loop-at l = record {
  within : l.at ≤ length l.text;
  rest : members (has_bit l.set.bits) l.first l.at 0 (drop l.at l.text)
      ≡ members (λ _. false) true l.start 0 (drop l.start l.text);
}

abbrev pub decreases-loop-at : goal.decreases-loop-at
decreases-loop-at l = length l.text - l.at
