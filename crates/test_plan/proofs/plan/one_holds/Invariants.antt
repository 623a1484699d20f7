use Rattle.std.proofs.Common.{◌≡◌, length}
use Rattle.bool_exprs.specs.View.{exprs_of}
use Rattle.lit_directives.specs.Lists.{AreFree}
use Rattle.test_plan.specs.Plan.{one_holds}
use Rattle.test_plan.proofs.plan.one_holds.Given as goal

abbrev pub invariant-loop-first : goal.invariant-loop-first
invariant-loop-first l = record {
  free : AreFree l.rest;
  whole : one_holds l.features (exprs_of l.rest) ≡ one_holds l.features (exprs_of l.exprs);
}

abbrev pub decreases-loop-first : goal.decreases-loop-first
decreases-loop-first l = length l.rest
