use Rattle.std.proofs.Common.{take}
use Rattle.check_program.specs.Compiled.{AreChecks, implicit_bodies}
use Rattle.check_program.proofs.compiling.of_regions.Given as goal

abbrev pub invariant-loop-index : goal.invariant-loop-index
invariant-loop-index l =
    AreChecks l.opts l.lines l.fn.known (take l.index (implicit_bodies 1 l.implicit)) l.checks l.known
