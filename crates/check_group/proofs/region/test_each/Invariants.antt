use Rattle.std.proofs.Common.{◌≡◌, ◌++◌, drop}
use Rattle.check_group.specs.Region.{AreOf, region}
use Rattle.check_group.proofs.region.test_each.Given as goal

abbrev pub invariant-loop-check : goal.invariant-loop-check
invariant-loop-check g l = record {
  told : l.faults ++ region l.context.text.now l.from l.context.vars.now (drop l.check-index l.nots)
      ≡ l.fn.faults ++ region l.context.text.now l.from l.context.vars.now l.nots;
  known : AreOf (drop l.from l.context.text.now) l.known;
}
