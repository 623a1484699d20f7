use Rattle.std.proofs.Common.{map, take}
use Rattle.check_program.specs.Compiled.{AreChecks, body_of}
use Rattle.check_program.proofs.compiling.of_lines.Given as goal

abbrev pub invariant-loop-number : goal.invariant-loop-number
invariant-loop-number l =
    AreChecks l.opts 0 l.fn.known (take l.number (map (body_of l.text) l.directives)) l.checks l.known
