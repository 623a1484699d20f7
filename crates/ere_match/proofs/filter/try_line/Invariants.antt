use Rattle.std.proofs.Common.{◌≤◌, drop}
use Rattle.ere_slow.specs.Slow.{HasNoHitBefore}
use Rattle.ere_tree.specs.View.{view}
use Rattle.ere_match.proofs.filter.try_line.Given as goal

abbrev pub invariant-loop-place : goal.invariant-loop-place
invariant-loop-place l = record {
  from : l.one.span.from ≤ l.place;
  before : HasNoHitBefore (drop l.one.from l.text) (view l.ere) l.place;
  passed : HasNoHitBefore (drop l.one.from l.text) (view l.ere) l.next;
}
