use Rattle.std.proofs.Common.{All, length, subst, sym, ◌∙◌, ap}
use Rattle.check_group.specs.Lies.{FaultLies}
use Rattle.filecheck_tool.specs.CheckFile.{IsNumber}
use Rattle.filecheck_tool.specs.Dump.{marks_due}
use Rattle.filecheck_tool.proofs.DumpLemmas.{due_within, numbers_of_faults}
use Rattle.filecheck_tool.proofs.verdict.found_of.Goals as goal

pub marks_due-requires-clause-numbers : goal.marks_due-requires-clause-numbers
marks_due-requires-clause-numbers c =
    let IsOne = IsNumber c.args.file.now in
    subst (All (λ fault. IsOne fault.directive)) (sym c.as_slice.ensures)
    (numbers_of_faults IsOne (length c.args.input) c.args.faults c.requires.lie)

-- the shared text is the input
pub findings_of-requires-clause-lie : goal.findings_of-requires-clause-lie
findings_of-requires-clause-lie c =
    subst (λ text. All (FaultLies (IsNumber c.args.file.now) (length text)) c.args.faults) (sym c.in_ok-input.ensures) c.requires.lie

pub dump_with-dumped-requires-clause-within : goal.dump_with-dumped-requires-clause-within
dump_with-dumped-requires-clause-within c =
    due_within c.args.file.now (length c.in_ok-input.input) c.args.faults c.in_ok-due.due
    (c.in_ok-due.ensures ∙ ap (marks_due c.args.file.now) c.as_slice.ensures)
    (subst (λ text. All (FaultLies (IsNumber c.args.file.now) (length text)) c.args.faults) (sym c.in_ok-input.ensures) c.requires.lie)
