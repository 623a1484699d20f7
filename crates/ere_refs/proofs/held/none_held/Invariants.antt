use Rattle.std.proofs.Common.{◌≡◌, ℕ}
use Rattle.std.specs.FinMap.{empty}
use Rattle.ere_tree.specs.Captures.{caps_of}
use Rattle.ere_refs.proofs.held.none_held.Given as goal

abbrev pub invariant-loop : goal.invariant-loop
invariant-loop l = (start : ℕ) → l.held.items ≡ caps_of start empty l.counter
