use Rattle.test_plan.proofs.PlanLemmas.{added}
use Rattle.test_plan.proofs.texts.texts_of.Goals as goal

pub returns : goal.returns
returns c =
    rw c.in_ok-push-5.ensures.ok (rw c.in_ok-push-4.ensures.ok (rw c.in_ok-push-3.ensures.ok (rw c.in_ok-push-2.ensures.ok (
    rw c.in_ok-push.ensures.ok (rw c.in_ok-all.ensures (rw c.as_slice.ensures (added c.args.test.now c.in_ok-pair.field-0
    c.in_ok-pair-2.field-0 c.in_ok-pair-3.field-0 c.in_ok-pair-4.field-0 c.in_ok-pair-5.field-0 c.in_ok-pair.ensures
    c.in_ok-pair-2.ensures c.in_ok-pair-3.ensures c.in_ok-pair-4.ensures c.in_ok-pair-5.ensures)))))))
