use Rattle.std.proofs.Common.{◌≡◌}
use Rattle.generator.specs.Generated.{first_lines, input_line}
use Rattle.generator.proofs.lines.input_text.Given as goal

abbrev pub invariant-loop-done : goal.invariant-loop-done
invariant-loop-done l = l.text ≡ first_lines input_line l.done
