use Rattle.ere_relaxed.specs.CopiesView.{copies_of}
use Rattle.ere_relaxed.proofs.CodeLemmas.{more_freed}
use Rattle.ere_relaxed.proofs.freed.+freed.Goals as goal

pub all_freed_by-loop-one-preserved : goal.all_freed_by-loop-one-preserved
all_freed_by-loop-one-preserved t c =
    more_freed (copies_of c.args.copies.now) c.args.all.now c.loop-one.made.items c.push.new.self.items
    c.loop-one.one-index c.one-item.result c.in_ok-freed_by.field-0 c.loop-one-test.true c.one-item.is
    c.in_ok-push.ensures.items c.loop-one.invariant c.in_ok-freed_by.ensures
