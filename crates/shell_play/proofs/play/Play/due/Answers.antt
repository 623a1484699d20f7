use Rattle.shell_play.proofs.StandingLemmas.{shows_request}
use Rattle.shell_play.proofs.play.Play.due.Goals as goal

pub returns-in_ok-request-in-Command-clause-exact : goal.returns-in_ok-request-in-Command-clause-exact
returns-in_ok-request-in-Command-clause-exact c =
    let few = rw c.in-Command.is at c.args.self.now.few in
    rw c.in-Command.is (shows_request c.args.self.now.test.now c.args.self.now.told.items c.in-Command.running c.in-Command.wants
    c.in_ok-request-in-Command.request few.1 c.in_ok-request-in-Command.ensures.exact)
