use Rattle.std.proofs.Common.{rules}
use Rattle.check_group.proofs.ContinuesLemmas.{none_changed, part_way_any}
use Rattle.check_scan.proofs.LiesLemmas.{faults_lie}
use Rattle.check_scan.proofs.verdict.scan.Goals as goal

pub returns-in_err-new-clause-part_way : goal.returns-in_err-new-clause-part_way
returns-in_err-new-clause-part_way g c = part_way_any c.from_residual.result (none_changed _ c.args.vars.now)

pub returns-in-Ok-clause-lie : goal.returns-in-Ok-clause-lie
returns-in-Ok-clause-lie g c =
    let a = c.args in
    faults_lie a.checks.now a.subject.now.always.now a.var_scope a.subject.now.text.now a.vars.now c.run_blocks-ran.new.progress.faults
    (search rules)
