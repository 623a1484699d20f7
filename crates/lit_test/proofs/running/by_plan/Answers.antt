use Rattle.std.proofs.Common.{refl}
use Rattle.tt_outside.specs.Gave.{last_of}
use Rattle.lit_test.specs.Trial.{nothing_shown, unresolved, unsupported}
use Rattle.lit_test.proofs.EndingLemmas.{ends_at_once}
use Rattle.lit_test.proofs.running.by_plan.Goals as goal

pub by_runs-requires-clause-bounds : goal.by_runs-requires-clause-bounds
by_runs-requires-clause-bounds g c = rw c.in-Run.is at c.requires.bounds

pub returns-in_ok-ending-in-NotSupported-clause-ends : goal.returns-in_ok-ending-in-NotSupported-clause-ends
returns-in_ok-ending-in-NotSupported-clause-ends g c =
    rw c.in-NotSupported.is (ends_at_once (g.R.Runner.gave c.args.hand.now) (last_of 0 (g.R.Runner.begun c.args.hand.now))
    c.args.test.now _ c.args.entries.now c.args.kept nothing_shown unsupported c.in_ok-ending-in-NotSupported.ending refl
    c.requires.kept c.in_ok-ending-in-NotSupported.ensures)

pub returns-in_ok-ending-in-Unresolved-clause-ends : goal.returns-in_ok-ending-in-Unresolved-clause-ends
returns-in_ok-ending-in-Unresolved-clause-ends g c =
    rw c.in-Unresolved.is (ends_at_once (g.R.Runner.gave c.args.hand.now) (last_of 0 (g.R.Runner.begun c.args.hand.now))
    c.args.test.now _ c.args.entries.now c.args.kept nothing_shown (unresolved c.in-Unresolved.cause)
    c.in_ok-ending-in-Unresolved.ending refl c.requires.kept
    (rw c.new.ensures at c.in_ok-ending-in-Unresolved.ensures))

pub returns-in_ok-ending-in-Run-clause-ends : goal.returns-in_ok-ending-in-Run-clause-ends
returns-in_ok-ending-in-Run-clause-ends g c = rw c.in-Run.is (c.in_ok-ending-in-Run.ensures.ends)
