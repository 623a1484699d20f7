use Rattle.std.proofs.Common.{◌≤◌, ◌-◌, length}
use Rattle.check_group.specs.Alone.{came, counted}
use Rattle.check_group.specs.Continues.{Continues, LiesIn}
use Rattle.check_group.specs.Tries.{AreFor}
use Rattle.check_group.proofs.alone.match_alone.Given as goal

abbrev pub invariant-loop-done : goal.invariant-loop-done
invariant-loop-done g l = record {
  behind : l.place ≤ l.reached.to;
  same : AreFor l.tries l.check l.vars;
  reached : LiesIn l.place (length l.text) l.reached;
  rest : Continues (came l.text l.fn.vars l.place l.check)
      (counted l.text l.check (l.check.demand.times - l.done) l.done l.vars l.reached.from l.reached.to) l.fn.vars l.vars;
}
