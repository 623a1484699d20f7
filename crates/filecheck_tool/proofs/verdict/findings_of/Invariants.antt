use Rattle.std.proofs.Common.{◌≡◌, ◌++◌, All, length}
use Rattle.std.specs.Vec.Iter.{into_iter_items}
use Rattle.check_group.specs.Lies.{FaultLies}
use Rattle.filecheck_tool.specs.CheckFile.{IsNumber}
use Rattle.filecheck_tool.specs.Verdict.{findings_of}
use Rattle.filecheck_tool.proofs.verdict.findings_of.Given as goal

abbrev pub invariant-loop-fault : goal.invariant-loop-fault
invariant-loop-fault l = record {
  lie : All (FaultLies (IsNumber l.file) (length l.input)) (into_iter_items l.fault-iterator);
  told : l.findings ++ findings_of l.file l.input (into_iter_items l.fault-iterator) ≡ findings_of l.file l.input l.fn.faults;
}
