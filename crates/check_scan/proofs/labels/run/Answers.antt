use Rattle.check_scan.specs.Parts.{parts_of}
use Rattle.check_scan.specs.Verdict.{beginning}
use Rattle.check_scan.proofs.RunsLemmas.{changed_ready}
use Rattle.check_scan.proofs.VerdictLemmas.{run_finishes}
use Rattle.check_scan.proofs.labels.run.Goals as goal

pub run_block-requires-clause-always_ready : goal.run_block-requires-clause-always_ready
run_block-requires-clause-always_ready g c =
    changed_ready (beginning c.args.forget) c.args.progress.now.vars c.begin_block.new.vars c.args.subject.now.always.now
    c.begin_block.ensures c.requires.always_ready

pub run_block-requires-clause-ready : goal.run_block-requires-clause-ready
run_block-requires-clause-ready g c =
    changed_ready (beginning c.args.forget) c.args.progress.now.vars c.begin_block.new.vars c.args.checks.now c.begin_block.ensures
    c.requires.ready

pub returns : goal.returns
returns g c =
    let a = c.args in
    run_finishes a.subject.now a.forget (parts_of a.last a.checks.now) a.progress.now c.begin_block.new.vars c.run_block.new.progress
    c.run_block.result c.begin_block.ensures c.run_block.ensures
