use Rattle.std.proofs.Common.{◌≡◌, ℕ, ◌<◌, true, get_or}
use Rattle.check_lines.specs.Class.{has}
use Rattle.check_lines.specs.declared.class.Class.TheVariants.{Blank}
use Rattle.filecheck_words.proofs.implicit.blanks_before.Given as goal

abbrev pub invariant-loop-at : goal.invariant-loop-at
invariant-loop-at l = (k : ℕ) → k < l.at → has Blank (get_or l.text k 0) ≡ true
