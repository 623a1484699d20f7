use Rattle.std.proofs.Common.{◌-◌, ◌<◌, All, drop, get_or, length}
use Rattle.check_group.specs.Group.{AreInOrder, EndsBy, group, group_at}
use Rattle.check_group.specs.Continues.{Continues, LiesIn}
use Rattle.check_group.specs.Near.{AreFirstsOf}
use Rattle.check_group.specs.declared.directive.Check.{Check}
use Rattle.check_group.proofs.ResumeLemmas.{Resumes}
use Rattle.check_group.proofs.group.place_group.Given as goal

abbrev pub invariant-loop-index : goal.invariant-loop-index
invariant-loop-index g l = record {
  known : AreFirstsOf (drop l.place l.text) l.known;
  within : All (EndsBy (length l.text)) l.ranges.items;
  in_order : AreInOrder l.ranges.items;
  reached : LiesIn l.place (length l.text) l.reached;
  resumes : (one : Check) → 0 < l.index → Resumes l.text l.vars l.ranges.items l.place (get_or l.checks (l.index - 1) one) l.behind;
  rest : Continues (group_at l.text l.place l.fn.vars l.checks)
      (group l.text l.place l.vars l.ranges.items l.reached (drop l.index l.checks)) l.fn.vars l.vars;
}
