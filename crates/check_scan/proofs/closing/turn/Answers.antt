use Rattle.std.proofs.Common.{◌++◌}
use Rattle.check_scan.specs.Parts.{came_of, part_of}
use Rattle.check_scan.proofs.ClosingLemmas.{turned, turned_part_way}
use Rattle.check_scan.proofs.RunsLemmas.{changed_ready}
use Rattle.check_scan.proofs.closing.turn.Goals as goal

pub returns-in-Err-clause-turns : goal.returns-in-Err-clause-turns
returns-in-Err-clause-turns g c =
    let a = c.args in
    turned_part_way a.subject.now.text.now (a.subject.now.always.now ++ a.pending.now)
    (came_of a.subject.now.text.now a.progress.now.vars a.progress.now.place (part_of a.part.now)) a.progress.now
    (record a.progress.now { vars = c.match_part.new.vars }) _ c.in-Err.ensures.part_way

pub close-requires-clause-always_ready : goal.close-requires-clause-always_ready
close-requires-clause-always_ready g c =
    changed_ready _ c.args.progress.now.vars c.match_part.new.vars c.args.subject.now.always.now c.in-Ok.ensures.value.vars
    c.requires.always_ready

pub close-requires-clause-ready : goal.close-requires-clause-ready
close-requires-clause-ready g c =
    changed_ready _ c.args.progress.now.vars c.match_part.new.vars c.args.pending.now c.in-Ok.ensures.value.vars c.requires.pending_ready

pub returns-in-Ok-clause-turns : goal.returns-in-Ok-clause-turns
returns-in-Ok-clause-turns g c =
    let a = c.args in
    turned a.subject.now.text.now (a.subject.now.always.now ++ a.pending.now)
    (came_of a.subject.now.text.now a.progress.now.vars a.progress.now.place (part_of a.part.now)) a.progress.now
    c.match_part.new.vars c.in-Ok.outcome c.close.new.progress c.close.result c.in-Ok.ensures.value c.close.ensures.turns
