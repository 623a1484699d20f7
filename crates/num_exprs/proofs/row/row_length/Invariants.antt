use Rattle.std.proofs.Common.{◌≡◌, ℕ, ◌<◌, true, get_or}
use Rattle.num_exprs.specs.Row.{is_in_row}
use Rattle.num_exprs.proofs.row.row_length.Given as goal

abbrev pub invariant-loop-at : goal.invariant-loop-at
invariant-loop-at l = (k : ℕ) → k < l.at → is_in_row l.row (get_or l.text k 0) ≡ true
