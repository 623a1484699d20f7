use Rattle.std.proofs.Common.{sym, subst}
use Rattle.std.proofs.lemmas.Result.{IfOk-weaker}
use Rattle.ere_refs.specs.Machine.{AreLives, AreMemberLives}
use Rattle.ere_tree.specs.View.{view}
use Rattle.ere_refs.proofs.row.lives_of.Goals as goal

pub returns-in-Members-clause-lives : goal.returns-in-Members-clause-lives
returns-in-Members-clause-lives c =
    IfOk-weaker c.member_lives.result (λ lives. AreMemberLives (view c.in-Members.inner.now) lives.items c.args.behind.now)
    (λ lives. AreLives c.args.row lives.items c.args.behind.now)
    (λ lives h. subst (λ row. AreLives row lives.items c.args.behind.now) (sym c.in-Members.is) h)
    c.member_lives.ensures.lives
