use Rattle.std.proofs.Common.{◌++◌, All, length, subst, sym}
use Rattle.check_group.specs.Lies.{FaultLies, numbers_of}
use Rattle.filecheck_tool.specs.CheckFile.{IsNumber}
use Rattle.filecheck_tool.specs.Program.{AreOf}
use Rattle.filecheck_tool.proofs.NumberLemmas.{lies_of}
use Rattle.filecheck_tool.proofs.verdict.verdict.Goals as goal

-- what a scan tells is of the program's directives, which have the numbers of its check file
pub report_of-requires-clause-lie : goal.report_of-requires-clause-lie
report_of-requires-clause-lie c =
    let program = c.args.program.now in
    let always = c.as_slice-2.result.now in
    let checks = c.as_slice-3.result.now in
    let are = subst (λ all. AreOf program.file (all ++ always)) (sym c.as_slice-3.ensures)
    (subst (λ all. AreOf program.file (program.checks ++ all)) (sym c.as_slice-2.ensures) c.requires.sound.numbers) in
    subst (λ text. All (FaultLies (IsNumber program.file) (length text)) c.in_ok-faults.faults) c.as_slice.ensures
    (lies_of (IsNumber program.file) (numbers_of (checks ++ always)) (length c.as_slice.result.now) c.in_ok-faults.faults are
    c.in_ok-faults.ensures.lie)
