use Rattle.std.proofs.Common.{◌≡◌}
use Rattle.std.specs.FinMap.{empty}
use Rattle.ere_tree.specs.Captures.{caps_of}
use Rattle.ere_captures.proofs.walk.captures.Given as goal

abbrev pub invariant-loop : goal.invariant-loop
invariant-loop l = l.caps.items ≡ caps_of l.start empty l.counter
