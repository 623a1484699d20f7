use Rattle.std.proofs.Common.{◌≡◌, ◌+◌, ◌++◌, drop}
use Rattle.filecheck_tool.specs.Dump.{implicit_labels}
use Rattle.filecheck_tool.proofs.dumping.add_implicit.Given as goal

abbrev pub invariant-loop-body : goal.invariant-loop-body
invariant-loop-body l =
    (l.number ≡ l._body-index + 1)
    × (l.labels ++ implicit_labels l.number (drop l._body-index l.implicit) ≡ l.fn.labels ++ implicit_labels 1 l.implicit)
