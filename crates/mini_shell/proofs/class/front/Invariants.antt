use Rattle.std.proofs.Common.{◌≡◌, ℕ, ◌<◌, true, get_or}
use Rattle.mini_shell.specs.Class.{has}
use Rattle.mini_shell.proofs.class.front.Given as goal

abbrev pub invariant-loop-at : goal.invariant-loop-at
invariant-loop-at l = (k : ℕ) → k < l.at → has l.class (get_or l.text k 0) ≡ true
