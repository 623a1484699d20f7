use Rattle.std.proofs.Common.{◌≡◌, map, take}
use Rattle.ere_slow.specs.WayView.{step_of}
use Rattle.ere_slow.proofs.way.+copy.Given as goal

abbrev pub invariant-OwnedWays::copy-loop-step : goal.invariant-OwnedWays::copy-loop-step
invariant-OwnedWays::copy-loop-step l = map step_of l.held.items ≡ map step_of (take l.step-index l.step-items)
