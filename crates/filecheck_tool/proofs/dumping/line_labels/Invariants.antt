use Rattle.std.proofs.Common.{◌≡◌, ◌++◌, drop, map}
use Rattle.filecheck_tool.specs.Dump.{line_label}
use Rattle.filecheck_tool.proofs.dumping.line_labels.Given as goal

abbrev pub invariant-loop-directive : goal.invariant-loop-directive
invariant-loop-directive l =
    l.labels ++ map (line_label l.file) (drop l.directive-index l.directives) ≡ map (line_label l.file) l.directives
