use Rattle.std.proofs.Common.{◌≡◌, take}
use Rattle.input_dump.specs.Marks.{marks}
use Rattle.input_dump.proofs.marking.marks.Given as goal

abbrev pub invariant-loop-fault : goal.invariant-loop-fault
invariant-loop-fault l = l.told ≡ marks (take l.fault-index l.faults) l.labels
