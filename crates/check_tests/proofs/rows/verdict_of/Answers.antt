use Rattle.std.proofs.Common.{All, subst, sym}
use Rattle.check_group.specs.Changes.{IsReady}
use Rattle.check_tests.proofs.rows.verdict_of.Goals as goal

pub scanned-requires-clause-ready : goal.scanned-requires-clause-ready
scanned-requires-clause-ready c =
    subst (All (IsReady c.in_ok-vars.vars)) (sym c.as_slice-2.ensures)
    (c.requires.ready c.in_ok-vars.vars c.in_ok-vars.ensures.placed)

pub scanned-requires-clause-always_ready : goal.scanned-requires-clause-always_ready
scanned-requires-clause-always_ready c =
    subst (All (IsReady c.in_ok-vars.vars)) (sym c.as_slice.ensures)
    (c.requires.always_ready c.in_ok-vars.vars c.in_ok-vars.ensures.placed)
