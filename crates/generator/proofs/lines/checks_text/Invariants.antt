use Rattle.std.proofs.Common.{◌≡◌}
use Rattle.generator.specs.Generated.{first_lines, check_line}
use Rattle.generator.proofs.lines.checks_text.Given as goal

abbrev pub invariant-loop-done : goal.invariant-loop-done
invariant-loop-done l = l.text ≡ first_lines check_line l.done
