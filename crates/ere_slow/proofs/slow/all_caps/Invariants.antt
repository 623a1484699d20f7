use Rattle.std.proofs.Common.{◌≡◌}
use Rattle.ere_tree.specs.Captures.{caps_of}
use Rattle.ere_slow.specs.WayView.{captures_of}
use Rattle.ere_slow.proofs.slow.all_caps.Given as goal

abbrev pub invariant-loop-before : goal.invariant-loop-before
invariant-loop-before l = l.all.items ≡ caps_of l.start (captures_of l.captures) l.before
