use Rattle.std.proofs.Common.{◌≡◌, ◌∙◌, false, sym}
use Rattle.std.proofs.lemmas.List.Elements.{All-rest}
use Rattle.bool_exprs.specs.Expr.{expr_of, refers}
use Rattle.test_plan.proofs.PlanLemmas.{none_rest}
use Rattle.test_plan.proofs.plan.one_holds.Goals as goal

pub loop-first-preserved : goal.loop-first-preserved
loop-first-preserved c = record {
  free = All-rest (λ e. refers (expr_of e) ≡ false) c.in-Some.first.now c.in-Some.behind.now c.loop-first.rest.now
      c.in-Some.ensures.cases.0 c.loop-first.invariant.free;
  whole = none_rest c.args.features.now c.in-Some.first.now c.in-Some.behind.now c.loop-first.rest.now c.in-Some.ensures.cases.0
      (sym c.holds_in.ensures ∙ c.if-holds_in.false) ∙ c.loop-first.invariant.whole;
}
