use Rattle.std.proofs.Common.{◌≡◌, ℕ, ◌<◌, ◌≤◌, true, get_or, length}
use Rattle.ere_tree.specs.Class.{is_blank}
use Rattle.lit_directives.proofs.front.blanks_behind.Given as goal

abbrev pub invariant-loop-at : goal.invariant-loop-at
invariant-loop-at l = (k : ℕ) → l.at ≤ k → k < length l.text → is_blank (get_or l.text k 0) ≡ true
