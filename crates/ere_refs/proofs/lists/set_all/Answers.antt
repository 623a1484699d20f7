use Rattle.std.proofs.Common.{sym, subst}
use Rattle.std.specs.List.{AllZip}
use Rattle.std.proofs.lemmas.List.Elements.{AllZip-push}
use Rattle.ere_refs.specs.Machine.{SetsGroup}
use Rattle.ere_refs.proofs.lists.set_all.Goals as goal

pub loop-held-preserved : goal.loop-held-preserved
loop-held-preserved c =
    subst (AllZip (SetsGroup c.args.part c.args.number) _) (sym c.in_ok-push.ensures.items)
    (AllZip-push (SetsGroup c.args.part c.args.number) c.loop-held.yielded c.loop-held.set.items c.in-Some.held c.with_group.result
    c.loop-held.invariant (c.with_group.ensures.set, c.with_group.ensures.long))
