use Rattle.std.proofs.Common.{◌≡◌, ℕ, ◌<◌, true, get_or}
use Rattle.bool_exprs.specs.Piece.{is_in_name}
use Rattle.bool_exprs.proofs.front.name_length.Given as goal

abbrev pub invariant-loop-at : goal.invariant-loop-at
invariant-loop-at l = (k : ℕ) → k < l.at → is_in_name (get_or l.text k 0) ≡ true
