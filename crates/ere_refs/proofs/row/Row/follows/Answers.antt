use Rattle.std.proofs.Common.{sym, subst}
use Rattle.ere_refs.specs.Machine.{AreLives, FollowFits}
use Rattle.ere_refs.proofs.row.Row.follows.Goals as goal

pub returns-in-Parts-clause-fits : goal.returns-in-Parts-clause-fits
returns-in-Parts-clause-fits c = λ live are.
    subst (λ row. FollowFits row live c.args.stage c.args.at_end c.parts_follow.result) (sym c.in-Parts.is)
    (c.parts_follow.ensures.fits live (subst (λ row. AreLives row c.args.lives.now live) c.in-Parts.is are))

pub returns-in-Members-clause-fits : goal.returns-in-Members-clause-fits
returns-in-Members-clause-fits c = λ live are.
    subst (λ row. FollowFits row live c.args.stage c.args.at_end c.members_follow.result) (sym c.in-Members.is)
    (c.members_follow.ensures.fits live (subst (λ row. AreLives row c.args.lives.now live) c.in-Members.is are))
